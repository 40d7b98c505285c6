use Rattle.std.proofs.Common.{◌≡◌, ℕ, ◌-◌, ◌≤◌, List, length, vec_len}
use Rattle.slot_tables.specs.Words.{holds}
use Rattle.slot_tables.proofs.place_set.grow_words.Given as goal

pub record IsGrown (was now : List ℕ) (len : ℕ) : Type 0 where
  pub held : (q : ℕ) → holds now q ≡ holds was q
  pub more : length was ≤ length now
  pub limit : (limit : ℕ) → len ≤ limit → length was ≤ limit → length now ≤ limit

abbrev pub invariant-loop-words : goal.invariant-loop-words
invariant-loop-words l = IsGrown l.initial.words.items l.words.items l.len

abbrev pub decreases-loop-words : goal.decreases-loop-words
decreases-loop-words l = l.len - vec_len l.words
