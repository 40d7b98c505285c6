-- What an answer unfolds to compute the definitions on a literal text.
use Rattle.std.specs.Prelude.{⊤}
use Rattle.flask_sid.specs.Names.{is_name_form, is_long, is_name, is_self, is_kind_form}
use Rattle.flask_sid.specs.Contexts.{context_of_parts, context_form, is_long_context}
use Rattle.access_vectors.specs.Table.{class_named, perm_named}
use Rattle.access_vectors.specs.Vectors.{has, with_index}
use Rattle.text_lines.specs.Lines.{lines_below, lines_of, words_of, said_words, line_words}
use Rattle.policy_text.specs.Forms.{only_word, source_of, target_of, are_perms, are_members, pattern_form, label_form, header_form, context_line_form, kind_line_form, attribute_form, listed_form, version_form, decided_form, labelled_form, declaration_form, line_form}
use Rattle.policy_model.specs.Declarations.{is_kind, is_attribute, has_context}
use Rattle.policy_text.specs.Above.{is_long_pattern, is_long_label, newest_rules, is_full_for}
use Rattle.policy_text.specs.Known.{whole_row, perms_of, pattern_of, labelling_rule}
use Rattle.policy_text.specs.Grammar.{with_context, with_rule, context_read, kind_read, attribute_read, listed_read, version_read, decided_read, labelled_read, below_header, form_read, words_read, line_read, is_whole, end_read, policy_of}
use Rattle.policy_model.specs.Matching.{is_in, matches_source, matches_target, matches}
use Rattle.policy_model.specs.Deciding.{verdict_on, says_of, is_allowed, vector_where, decided_vector, rules_at, vector_of}

unfoldable pub policies_on_literals : ⊤
unfolding is_name_form is_long is_name is_self is_kind_form context_of_parts context_form is_long_context class_named perm_named has with_index lines_below lines_of words_of said_words line_words only_word source_of target_of are_perms are_members pattern_form label_form header_form context_line_form kind_line_form attribute_form listed_form version_form decided_form labelled_form declaration_form line_form is_kind is_attribute has_context is_long_pattern is_long_label newest_rules is_full_for whole_row perms_of pattern_of labelling_rule with_context with_rule context_read kind_read attribute_read listed_read version_read decided_read labelled_read below_header form_read words_read line_read is_whole end_read policy_of is_in matches_source matches_target matches verdict_on says_of is_allowed vector_where decided_vector rules_at vector_of
policies_on_literals = tt
