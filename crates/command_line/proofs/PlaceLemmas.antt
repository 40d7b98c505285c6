-- The parse of words that begin with no `-`: where it has a fault, and what it gives back.
use Rattle.std.proofs.Common.{◌≡◌, ◌∙◌, ℕ, true, false, refl, ap, ap₂, sym, subst, arith, length, List, [], ◌∷◌, Option, None, is_some, inl, inr, codes}
use Rattle.std.specs.List.{list_all}
use Rattle.clap.specs.Walk.{Held, Row, Walk, finished, first_of, nothing_held, settled, rows_of, walk, walked}
use Rattle.clap.specs.Simple.{built, entered, matches_of}
use Rattle.clap.specs.Faults.{check_fault, defaults_fault, entered_fault, fault_of, settle_fault, turn_fault, walk_fault}
use Rattle.clap.specs.Kinds.{HasKind, IsAmong, Kinds, or_else}
use Rattle.clap.specs.Matches.{first_value}
use Rattle.clap.specs.Values.{kind_of}
use Rattle.clap.specs.declared.error.Error.{Error}
use Rattle.clap.specs.declared.parser.matches.Found.{Found}
use Rattle.clap.specs.declared.error.kind.ErrorKind.{ErrorKind}
use Rattle.clap.specs.declared.error.kind.ErrorKind.TheVariants as kind
use Rattle.clap.proofs.WalkLemmas.{both, first_value-rows}
use Rattle.clap.proofs.SimpleLemmas.{is_false}
use Rattle.clap.proofs.OnLiterals.{clap_on_literals}
use Rattle.command_line.specs.Arguments.{begins_with_dash, is_argument}
use Rattle.command_line.specs.Commands.{command_by, command_of}
use Rattle.command_line.specs.Parser.{program}
use Rattle.command_line.specs.declared.command.Command.{Command}
use Rattle.command_line.proofs.ParserLemmas.{at, first, fourth, second, shape, third, walk_four, walk_one, walk_three, walk_two, walked_first, walked_fourth, walked_second, walked_third, word_turn}

plain_of : (word : List ℕ) → is_argument word ≡ true → begins_with_dash word ≡ false
unfolding is_argument
plain_of word told = is_false _ (both _ _ told).0

some_kind : (k : ErrorKind) → ◌≡◌ {A = Kinds} (k ∷ []) [] → ⊥
some_kind k e = let counted : 1 ≡ 0 = ap length e in absurd (omega (arith, counted))

-- ---- faults

-- a word without a fault leads on
word_passes : (held : Held) (place : ℕ) (next : Walk) (word : List ℕ) (rest : List (List ℕ))
    → turn_fault shape [] (at held place) word ≡ [] → walked shape.rules [] (at held place) word ≡ next
    → walk_fault shape [] (at held place) (word ∷ rest) ≡ walk_fault shape [] next rest
unfolding walk_fault
word_passes held place next word rest passes leads = ap₂ (λ kinds w. or_else kinds (walk_fault shape [] w rest)) passes leads

-- a word with a fault ends the walk
word_fails : (held : Held) (place : ℕ) (word : List ℕ) (rest : List (List ℕ)) → turn_fault shape [] (at held place) word ≡ kind.UnknownArgument ∷ []
    → walk_fault shape [] (at held place) (word ∷ rest) ≡ kind.UnknownArgument ∷ []
unfolding walk_fault
word_fails held place word rest fails = ap (λ kinds. or_else kinds (walk_fault shape [] (walked shape.rules [] (at held place) word) rest)) fails

-- the faults of a parse, by those of its walk and by where the walk ends
abbrev end_fault : Walk → Kinds → Kinds
end_fault end kinds =
    or_else kinds (or_else (entered_fault (built program) end.stopped) (or_else (settle_fault shape.rules false end.held)
    (or_else (defaults_fault (settled shape.rules end.held).rows shape.rules)
    (check_fault shape (finished shape.rules end.held) (is_some (entered (built program) end.stopped))))))

fault_is : (words : List (List ℕ)) → fault_of program words ≡ end_fault (walk shape.rules [] nothing_held words) (walk_fault shape [] (at nothing_held 1) words)
fault_is words = refl

-- the walk over the first four words, of which none has a fault
module _ (name : List ℕ) (n : begins_with_dash name ≡ false) where
  one_on : (rest : List (List ℕ)) → walk_fault shape [] (at nothing_held 1) (name ∷ rest) ≡ walk_fault shape [] (at (first name) 2) rest
  one_on rest = word_passes nothing_held 1 (at (first name) 2) name rest (word_turn name n shape 1 nothing_held) (walked_first name n)

  pub one_passes : fault_of program (name ∷ []) ≡ []
  unfolding defaults_fault walk_fault
  one_passes = ap₂ end_fault (walk_one name n) (one_on [])

  module _ (one : List ℕ) (s : begins_with_dash one ≡ false) where
    two_on : (rest : List (List ℕ)) → walk_fault shape [] (at nothing_held 1) (name ∷ one ∷ rest) ≡ walk_fault shape [] (at (second name one) 3) rest
    two_on rest = one_on (one ∷ rest)
        ∙ word_passes (first name) 2 (at (second name one) 3) one rest (word_turn one s shape 2 (first name)) (walked_second name one s)

    pub two_pass : fault_of program (name ∷ one ∷ []) ≡ []
    unfolding defaults_fault walk_fault
    two_pass = ap₂ end_fault (walk_two name one n s) (two_on [])

    module _ (two : List ℕ) (c : begins_with_dash two ≡ false) where
      three_on : (rest : List (List ℕ)) → walk_fault shape [] (at nothing_held 1) (name ∷ one ∷ two ∷ rest)
          ≡ walk_fault shape [] (at (third name one two) 4) rest
      three_on rest = two_on (two ∷ rest)
          ∙ word_passes (second name one) 3 (at (third name one two) 4) two rest (word_turn two c shape 3 (second name one))
          (walked_third name one two c)

      module _ (three : List ℕ) (l : begins_with_dash three ≡ false) where
        four_on : (rest : List (List ℕ)) → walk_fault shape [] (at nothing_held 1) (name ∷ one ∷ two ∷ three ∷ rest)
            ≡ walk_fault shape [] (at (fourth name one two three) 5) rest
        four_on rest = three_on (three ∷ rest)
            ∙ word_passes (third name one two) 4 (at (fourth name one two three) 5) three rest
            (word_turn three l shape 4 (third name one two)) (walked_fourth name one two three l)

        pub four_pass : fault_of program (name ∷ one ∷ two ∷ three ∷ []) ≡ []
        unfolding defaults_fault walk_fault
        four_pass = ap₂ end_fault (walk_four name one two three n s c l) (four_on [])

        pub five_fail : (more : List ℕ) (rest : List (List ℕ)) → begins_with_dash more ≡ false
            → fault_of program (name ∷ one ∷ two ∷ three ∷ more ∷ rest) ≡ kind.UnknownArgument ∷ []
        five_fail more rest m =
            let words : List (List ℕ) = name ∷ one ∷ two ∷ three ∷ more ∷ rest in
            ap (end_fault (walk shape.rules [] nothing_held words)) (four_on (more ∷ rest)
            ∙ word_fails (fourth name one two three) 5 more rest (word_turn more m shape 5 (fourth name one two three)))

pub none_fails : fault_of program [] ≡ kind.MissingRequiredArgument ∷ []
unfolding clap_on_literals
none_fails = refl

-- ---- what is given back

-- the command that the rows of the positionals are
abbrev pub command_in : List Row → Option Command
command_in rows = command_by (first_of (codes "command") rows) (first_of (codes "one") rows) (first_of (codes "two") rows) (first_of (codes "three") rows)

-- where the walk ended, the command is that of the rows
abbrev command_at : Walk → Option Command
command_at end = command_in (finished shape.rules end.held)

one_given : (name : List ℕ) → begins_with_dash name ≡ false → command_in (matches_of program (name ∷ [])) ≡ command_of (name ∷ [])
unfolding command_by command_of
one_given name n = ap command_at (walk_one name n)

two_given : (name one : List ℕ) → begins_with_dash name ≡ false → begins_with_dash one ≡ false
    → command_in (matches_of program (name ∷ one ∷ [])) ≡ command_of (name ∷ one ∷ [])
unfolding command_by command_of
two_given name one n s = ap command_at (walk_two name one n s)

three_given : (name one two : List ℕ) → begins_with_dash name ≡ false → begins_with_dash one ≡ false → begins_with_dash two ≡ false
    → command_in (matches_of program (name ∷ one ∷ two ∷ [])) ≡ command_of (name ∷ one ∷ two ∷ [])
unfolding command_by command_of
three_given name one two n s c = ap command_at (walk_three name one two n s c)

four_given : (name one two three : List ℕ) → begins_with_dash name ≡ false → begins_with_dash one ≡ false → begins_with_dash two ≡ false
    → begins_with_dash three ≡ false → command_in (matches_of program (name ∷ one ∷ two ∷ three ∷ [])) ≡ command_of (name ∷ one ∷ two ∷ three ∷ [])
unfolding command_by command_of
four_given name one two three n s c l = ap command_at (walk_four name one two three n s c l)

-- where the parse has no fault, what it gives back is the command of the words
pub given : (words : List (List ℕ)) → list_all is_argument words ≡ true → fault_of program words ≡ [] → command_in (matches_of program words) ≡ command_of words
given [] told passes = absurd (some_kind _ (sym none_fails ∙ passes))
given (name ∷ []) told passes = one_given name (plain_of name (both _ _ told).0)
given (name ∷ one ∷ []) told passes =
    let t = both _ _ told in
    two_given name one (plain_of name t.0) (plain_of one (both _ _ t.1).0)
given (name ∷ one ∷ two ∷ []) told passes =
    let t = both _ _ told in
    let u = both _ _ t.1 in
    three_given name one two (plain_of name t.0) (plain_of one u.0) (plain_of two (both _ _ u.1).0)
given (name ∷ one ∷ two ∷ three ∷ []) told passes =
    let t = both _ _ told in
    let u = both _ _ t.1 in
    let v = both _ _ u.1 in
    four_given name one two three (plain_of name t.0) (plain_of one u.0) (plain_of two v.0) (plain_of three (both _ _ v.1).0)
given (name ∷ one ∷ two ∷ three ∷ more ∷ rest) told passes =
    let t = both _ _ told in
    let u = both _ _ t.1 in
    let v = both _ _ u.1 in
    let w = both _ _ v.1 in
    absurd (some_kind _ (sym (five_fail name (plain_of name t.0) one (plain_of one u.0) two (plain_of two v.0) three (plain_of three w.0)
    more rest (plain_of more (both _ _ w.1).0)) ∙ passes))

-- words with a fault are no command
pub refused : (words : List (List ℕ)) → list_all is_argument words ≡ true → (found : ErrorKind) → IsAmong found (fault_of program words) → command_of words ≡ None
unfolding command_of
refused [] told found among = refl
refused (name ∷ []) told found among = absurd (subst (IsAmong found) (one_passes name (plain_of name (both _ _ told).0)) among)
refused (name ∷ one ∷ []) told found among =
    let t = both _ _ told in
    absurd (subst (IsAmong found) (two_pass name (plain_of name t.0) one (plain_of one (both _ _ t.1).0)) among)
refused (name ∷ one ∷ two ∷ []) told found among = refl
refused (name ∷ one ∷ two ∷ three ∷ []) told found among =
    let t = both _ _ told in
    let u = both _ _ t.1 in
    let v = both _ _ u.1 in
    absurd (subst (IsAmong found) (four_pass name (plain_of name t.0) one (plain_of one u.0) two (plain_of two v.0)
    three (plain_of three (both _ _ v.1).0)) among)
refused (name ∷ one ∷ two ∷ three ∷ more ∷ rest) told found among = refl

pub refused_by : (words : List (List ℕ)) → list_all is_argument words ≡ true → (error : Error) → HasKind (fault_of program words) error
    → (kind_of error ≡ kind.OutOfMemory → ⊥) → command_of words ≡ None
refused_by words told error (inl memory) other = absurd (other memory)
refused_by words told error (inr among) other = refused words told (kind_of error) among

-- the getters read the rows
pub values_read : (found : Found) (rows : List Row) → rows_of found ≡ rows
    → command_by (first_value found (codes "command")) (first_value found (codes "one")) (first_value found (codes "two")) (first_value found (codes "three"))
    ≡ command_in rows
values_read found rows are =
    let read : command_by (first_value found (codes "command")) (first_value found (codes "one")) (first_value found (codes "two")) (first_value found (codes "three"))
    ≡ command_in (rows_of found) = λ i. command_by (first_value-rows found (codes "command") i) (first_value-rows found (codes "one") i)
    (first_value-rows found (codes "two") i) (first_value-rows found (codes "three") i) in
    read ∙ ap command_in are
