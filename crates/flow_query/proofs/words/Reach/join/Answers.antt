use Rattle.std.proofs.Common.{◌≡◌, ℕ, ◌<◌, ◌∙◌, length, get_or, bit_and, bit_or, ap, sym, arith}
use Rattle.std.proofs.lemmas.List.{get_or_read}
use Rattle.policy_versions.specs.Vectors.{vector_at}
use Rattle.flow_query.specs.declared.words.Words.{Words}
use Rattle.flow_query.specs.Reaches.{no_words}
use Rattle.flow_query.proofs.ReachLemmas.{rows_joined, rows_passed}
use Rattle.flow_query.proofs.words.Reach.join.Goals as goal
use Rattle.flow_query.proofs.words.Reach.join.Goals.{in-None, in-Some}

pub sources-preserved : goal.sources-preserved
sources-preserved c =
    let i = c.sources.s in
    let rows = c.sources.self.rows.items in
    let vector : ℕ → ℕ → ℕ = λ s t. vector_at c.args.vectors.now c.args.version s t c.args.class in
    let bits = c.bits-bits.result in
    elim c.match-row.branch [
      | in-None w ↦
          rw w.self-is (rows_passed vector bits i c.args.self.now.rows.items rows
          (λ t. ap (λ s. vector s t) (sym c.type_at.ensures) ∙ w.in-None.ensures t) c.sources.invariant)
      | in-Some w ↦
          let within : i < length rows = omega (arith, c.sources.self.whole, c.sources-test.true) in
          let read : w.index_mut-words.result.now ≡ get_or rows i no_words = get_or_read rows i w.index_mut-words.result.now within w.index_mut-words.ensures.value no_words in
          rw w.self-is (rows_joined vector bits i c.args.self.now.rows.items rows w.join.new.self c.sources-test.true within
          (λ t ht. w.join.ensures t ht
          ∙ ap (λ (words : Words). bit_or (get_or words.words t 0) (bit_and (get_or w.in-Some.row.now t 0) bits)) read
          ∙ ap (λ v. bit_or (get_or (get_or rows i no_words).words t 0) (bit_and v bits)) (sym (w.in-Some.ensures t) ∙ ap (λ s. vector s t) c.type_at.ensures))
          c.sources.invariant)
    ]
