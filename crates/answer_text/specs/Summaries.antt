-- The line of a summary.
use Rattle.std.specs.Prelude.{ℕ, List, [], ◌∷◌, codes, decimal}

-- how many calls, how many of them denied, and how many changes complete
abbrev pub summary_words : ℕ → ℕ → ℕ → List (List ℕ)
summary_words calls denied changes = codes "calls" ∷ decimal calls ∷ codes "denied" ∷ decimal denied ∷ codes "changes" ∷ decimal changes ∷ []
