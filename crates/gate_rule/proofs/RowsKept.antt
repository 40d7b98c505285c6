-- What rows say, and that they stay true when the number is raised.
use Rattle.std.proofs.Common.{◌≡◌, ℕ, ◌+◌, ◌%◌, ◌<◌, ◌≤◌, true, sym, refl, ap, ◌∙◌, inl, inr, ⊎_elim, eqb-true, arith}
use Rattle.access_vectors.specs.declared.class.Class.{Class}
use Rattle.access_vectors.specs.declared.class.Class.TheVariants.{File, Dir, Process, Port, Security}
use Rattle.access_vectors.specs.Table.{code_of}
use Rattle.access_vectors.specs.Decisions.{Decisions}
use Rattle.row_words.specs.Words.{row_word, IsRow}
use Rattle.gate_rule.specs.declared.view.Key.{Key}
use Rattle.gate_rule.specs.Rows.{FitsRow, key_row, shows, IsKey}
use Rattle.gate_rule.proofs.Places.{put, put_else}

code_within : (c : Class) → (0 < code_of c) × (code_of c < 6)
code_within File = (omega arith, omega arith)
code_within Dir = (omega arith, omega arith)
code_within Process = (omega arith, omega arith)
code_within Port = (omega arith, omega arith)
code_within Security = (omega arith, omega arith)

pub code_apart : (c d : Class) → code_of c ≡ code_of d → c ≡ d
code_apart File File e = refl
code_apart Dir Dir e = refl
code_apart Process Process e = refl
code_apart Port Port e = refl
code_apart Security Security e = refl
code_apart c d e = absurd (omega arith)

-- two equal rows have equal fields
pub same_row : (n s t v n' s' t' v' : ℕ) (c c' : Class) → row_word n s t c v ≡ row_word n' s' t' c' v' → s < 4096 → t < 4096 → v < 65536 → s' < 4096 → t' < 4096 → v' < 65536
    → (n ≡ n') × (s ≡ s') × (t ≡ t') × (c ≡ c') × (v ≡ v')
same_row n s t v n' s' t' v' c c' e a b d a' b' d' =
    let p = code_within c in let q = code_within c' in
    let k = code_of c in let k' = code_of c' in
    (omega arith, omega arith, omega arith, code_apart c c' (omega arith), omega arith)

module _ (decides : Decisions) (newest : ℕ) (version : ℕ → ℕ) where
  -- a row that shows a key under a number has the decider's vector for that number's version
  pub shown : (n : ℕ) (key : Key) (w : ℕ) → FitsRow decides newest version w → IsKey key → shows n key w ≡ true → w % 65536 ≡ decides.vector (version n) key.source key.target key.class
  shown n key w fits is_key shows_it = ⊎_elim empty row fits
    where
      is : w ≡ key_row n key (w % 65536)
      is = eqb-true w (key_row n key (w % 65536)) shows_it

      empty : w ≡ 0 → w % 65536 ≡ decides.vector (version n) key.source key.target key.class
      empty z = let e = is in let k = is_key.0 in absurd (omega arith)

      row : (n' : ℕ) × (s : ℕ) × (t : ℕ) × (c : Class) × (v : ℕ) × (w ≡ row_word n' s t c v) × IsRow n' s t v × (n' ≤ newest) × (v ≡ decides.vector (version n') s t c)
          → w % 65536 ≡ decides.vector (version n) key.source key.target key.class
      row (n', s, t, c, v, e, within, le, is_v) =
          let same = same_row n key.source key.target (w % 65536) n' s t v key.class c (sym is ∙ e) is_key.1 is_key.3 (omega arith) within.2 within.4 within.5 in
          same.4 ∙ (is_v ∙ (ap (λ (m : ℕ). decides.vector (version m) s t c) (sym same.0)
          ∙ (ap (λ (x : ℕ). decides.vector (version n) x t c) (sym same.1) ∙ (ap (λ (x : ℕ). decides.vector (version n) key.source x c) (sym same.2) ∙ ap (λ (x : Class). decides.vector (version n) key.source key.target x) (sym same.3)))))

  -- a row of a key under a number that is not above the newest
  pub fits_key : (n : ℕ) (key : Key) (v : ℕ) → IsKey key → n ≤ newest → newest < 1048576 → v < 65536 → v ≡ decides.vector (version n) key.source key.target key.class → FitsRow decides newest version (key_row n key v)
  fits_key n key v is_key le small short is = inr (n, key.source, key.target, key.class, v, refl, (omega arith, is_key.0, is_key.1, is_key.2, is_key.3, short), le, is)

  pub rows_raised : (x w : ℕ) → FitsRow decides newest version w → FitsRow decides (newest + 1) (put version (newest + 1) x) w
  rows_raised x w fits = ⊎_elim (λ z. inl z) row fits
    where
      row : (n' : ℕ) × (s : ℕ) × (t : ℕ) × (c : Class) × (v : ℕ) × (w ≡ row_word n' s t c v) × IsRow n' s t v × (n' ≤ newest) × (v ≡ decides.vector (version n') s t c)
          → FitsRow decides (newest + 1) (put version (newest + 1) x) w
      row (n', s, t, c, v, e, within, le, is_v) =
          inr (n', s, t, c, v, e, within, omega arith, is_v ∙ ap (λ (m : ℕ). decides.vector m s t c) (sym (put_else version (newest + 1) x n' (λ z. omega arith))))
