-- Each step of a pen and of the taker keeps the rule of the queue.
use Rattle.std.proofs.Common.{◌≡◌, ◌≢◌, ◌<◌, ◌≤◌, ◌+◌, ℕ, zero, suc, Bool, true, false, true≢false, eqb, leb, cond, List, [], ◌∷◌, ◌++◌, length, set, sym, refl, ap, ◌∙◌, subst, ⊎_elim, append_assoc, append-nil, arith}
use Rattle.std.specs.List.{filter}
use Rattle.std.proofs.lemmas.Bool.Decides.{nat_tests}
use Rattle.std.proofs.lemmas.List.Elements.{filter-append}
use mathlib.Core.Option.{some, some-injective, some-ne-none}
use lib.ListN.{get_elem?}
use Rattle.crossbeam_queue.specs.Fifo.{Pushes, Pops, Forks, Merges, Learns}
use Rattle.crossbeam_queue.proofs.Lists.{at_set, at_snoc}
use Rattle.audit_log.specs.Logs.{is_of, lines_by}
use Rattle.audit_log.specs.declared.audited.AuditLine.{AuditLine}
use Rattle.audit_queue.specs.declared.knowledge.KeptLines.{KeptLines}
use Rattle.audit_queue.specs.declared.knowledge.Knowledge.{Knowledge}
use Rattle.audit_queue.specs.Delivery.{idle, taking, pen_of, FitsPen, FitsTaker, IsKept, Delivers, HasGot, IsLeft}

-- a function changed at one number
abbrev changed : {A : Type 0} → (ℕ → A) → ℕ → A → ℕ → A
changed f n a p = cond (eqb p n) a (f p)

here : {A : Type 0} (f : ℕ → A) (n : ℕ) (a : A) → changed f n a n ≡ a
here f n a = by_test (eqb n n) refl
  where
    by_test : (same : Bool) → eqb n n ≡ same → cond (eqb n n) a (f n) ≡ a
    by_test true is = rw is refl
    by_test false is = absurd (grind (arith, nat_tests, is))

there : {A : Type 0} (f : ℕ → A) (n : ℕ) (a : A) (p : ℕ) → p ≢ n → changed f n a p ≡ f p
there f n a p apart = by_test (eqb p n) refl
  where
    by_test : (same : Bool) → eqb p n ≡ same → cond (eqb p n) a (f p) ≡ f p
    by_test true is = absurd (apart (grind (arith, nat_tests, is)))
    by_test false is = rw is refl

-- where it is 0 it stays so when it is changed to 0
stays_zero : (f : ℕ → ℕ) (n p : ℕ) → f p ≡ 0 → changed f n 0 p ≡ 0
stays_zero f n p none = by_test (eqb p n) refl
  where
    by_test : (same : Bool) → eqb p n ≡ same → cond (eqb p n) 0 (f p) ≡ 0
    by_test true is = rw is refl
    by_test false is = rw is none

-- the lines of a client, with one line more that is its own, or is another's
pub lines_more : (p : ℕ) (lines : List AuditLine) (x : AuditLine) → x.client ≡ p → lines_by p (lines ++ x ∷ []) ≡ lines_by p lines ++ x ∷ []
lines_more p lines x same = filter-append (is_of p) lines (x ∷ []) ∙ ap (λ more. lines_by p lines ++ more) (by_test (eqb x.client p) refl)
  where
    by_test : (own : Bool) → eqb x.client p ≡ own → lines_by p (x ∷ []) ≡ x ∷ []
    by_test true is = rw is refl
    by_test false is = absurd (grind (arith, nat_tests, is, same))

pub lines_same : (p : ℕ) (lines : List AuditLine) (x : AuditLine) → (x.client ≡ p → ⊥) → lines_by p (lines ++ x ∷ []) ≡ lines_by p lines
lines_same p lines x apart = filter-append (is_of p) lines (x ∷ []) ∙ ap (λ more. lines_by p lines ++ more) (by_test (eqb x.client p) refl) ∙ append-nil (lines_by p lines)
  where
    by_test : (own : Bool) → eqb x.client p ≡ own → lines_by p (x ∷ []) ≡ []
    by_test true is = absurd (apart (grind (arith, nat_tests, is)))
    by_test false is = rw is refl

-- what holds of each view but one, and of what that one becomes, holds of each
each_set : (F : ℕ → Knowledge → Type 0) (views : List Knowledge) (pass : ℕ) (w : Knowledge) → F pass w → ((j : ℕ) (u : Knowledge) → j ≢ pass → get_elem? views j ≡ some u → F j u)
    → (j : ℕ) (u : Knowledge) → get_elem? (set views pass w) j ≡ some u → F j u
each_set F views pass w mine others j u e =
    ⊎_elim (λ (x : (j ≡ pass) × (w ≡ u)). subst (λ (y : ℕ × Knowledge). F y.0 y.1) (λ i. (sym x.0 i, x.1 i)) mine)
    (λ (x : (j ≢ pass) × (get_elem? views j ≡ some u)). others j u x.0 x.1) (at_set views pass j w u e)

-- a view that was not there before stands at the end
at_end : (l : List Knowledge) (a b : Knowledge) (j : ℕ) → get_elem? l j ≢ some b → get_elem? (l ++ a ∷ []) j ≡ some b → j ≡ length l
at_end [] a b zero n e = refl
at_end [] a b (suc j) n e = absurd (some-ne-none b (sym e))
at_end (x ∷ xs) a b zero n e = absurd (n e)
at_end (x ∷ xs) a b (suc j) n e = ap suc (at_end xs a b j n e)

-- a pass fits, as a pen and as the taker
abbrev Fits : ℕ → (ℕ → ℕ) → (ℕ → List AuditLine) → List AuditLine → ℕ → Knowledge → Type 0
Fits taker seat sent got pass v = FitsPen seat sent pass v × FitsTaker taker seat sent got pass v

-- a new queue, whose one pass is the taker's
pub begins : Delivers [] (taking ∷ [])
begins = (0, (λ _. 0), (λ _. []), [], (λ p. refl), first)
  where
    first : (pass : ℕ) (v : Knowledge) → get_elem? (taking ∷ []) pass ≡ some v → Fits 0 (λ _. 0) (λ _. []) [] pass v
    first zero v e =
        subst (λ u. Fits 0 (λ _. 0) (λ _. []) [] 0 u) (some-injective taking v e)
        ((λ p. absurd (true≢false (sym p))), λ _. (refl, refl, (λ p le. (refl, refl)), λ k one at. absurd (some-ne-none one (sym at))))
    first (suc pass) v e = absurd (some-ne-none v (sym e))

-- a pen posts a line of its own
pub posts : (n pass : ℕ) (v : Knowledge) (x : AuditLine) → v.posts ≡ true → v.takes ≡ false → x.client ≡ v.number
    → Pushes Delivers n pass v x (λ w. w ≡ record v { put = v.put ++ x ∷ [] })
posts n pass v x may none own items views _ h at =
    let w : Knowledge = record v { put = v.put ++ x ∷ [] } in
    let mine = (h.5 pass v at).0 may in
    let sent : ℕ → List AuditLine = changed h.2 v.number (v.put ++ x ∷ []) in
    let apart_from : (p : ℕ) (k : ℕ) → h.1 p ≡ k → (k ≡ suc pass → ⊥) → p ≢ v.number = λ p k is other same. other (sym is ∙ ap h.1 same ∙ mine.0) in (
      w,
      (
        h.0,
        h.1,
        sent,
        h.3,
        (λ p. by_test p (eqb p v.number) refl),
        each_set (Fits h.0 h.1 sent h.3) views pass w ((λ _. (mine.0, sym (here h.2 v.number (v.put ++ x ∷ [])))), λ takes. absurd (true≢false (sym takes ∙ none)))
            (λ j u other e.
            let theirs = h.5 j u e in (
              (λ p. let t = theirs.0 p in (t.0, t.1 ∙ sym (there h.2 v.number (v.put ++ x ∷ []) u.number (apart_from u.number (suc j) t.0 (λ same. other (suc_same same)))))),
              (λ p.
                  let t = theirs.1 p in (
                    t.0,
                    t.1,
                    (λ q le. let none_of = t.2 q le in (none_of.0, there h.2 v.number (v.put ++ x ∷ []) q (apart_from q 0 none_of.0 (λ same. no_seat same)) ∙ none_of.1)),
                    λ k one there_is. let kept = t.3 k one there_is in (kept.0, kept.1 ∙ sym (there h.2 v.number (v.put ++ x ∷ []) one.pen (apart_from one.pen 0 kept.0 (λ same. no_seat same))), kept.2),
                  )),
            )),
      ),
      refl,
    )
  where
    suc_same : {a b : ℕ} → suc a ≡ suc b → a ≡ b
    suc_same same = omega (arith, same)

    no_seat : 0 ≡ suc pass → ⊥
    no_seat same = omega (arith, same)

    by_test : (p : ℕ) (same : Bool) → eqb p v.number ≡ same → lines_by p (h.3 ++ (items ++ x ∷ [])) ≡ cond (eqb p v.number) (v.put ++ x ∷ []) (h.2 p)
    by_test p true is =
        let at_number : p ≡ v.number = grind (arith, nat_tests, is) in
        rw is
        (ap (lines_by p) (sym (append_assoc h.3 items (x ∷ []))) ∙ lines_more p (h.3 ++ items) x (own ∙ sym at_number)
        ∙ ap (λ l. l ++ x ∷ []) (h.4 p ∙ ap h.2 at_number ∙ sym ((h.5 pass v at).0 may).1))
    by_test p false is =
        let away : x.client ≡ p → ⊥ = λ same. grind (arith, nat_tests, is, same, own) in
        rw is (ap (lines_by p) (sym (append_assoc h.3 items (x ∷ []))) ∙ lines_same p (h.3 ++ items) x away ∙ h.4 p)

-- the taker makes a pen of the next number
pub makes : (pass : ℕ) (v : Knowledge) → v.takes ≡ true → v.posts ≡ false → Forks Delivers pass v (record v { made = v.made + 1 }) (pen_of v.made)
makes pass v may none items views h at =
    let l : Knowledge = record v { made = v.made + 1 } in
    let r : Knowledge = pen_of v.made in
    let mine = (h.5 pass v at).1 may in
    let vs : List Knowledge = set views pass l in
    let seat : ℕ → ℕ = changed h.1 v.made (suc (length vs)) in
    let unused : h.1 v.made ≡ 0 = (mine.2 v.made (omega arith)).0 in
    let Apart : ℕ → Knowledge → Type 0 = λ j u. u.posts ≡ true → u.number ≢ v.made in
    let apart : (j : ℕ) (u : Knowledge) → get_elem? vs j ≡ some u → Apart j u =
    each_set Apart views pass l (λ p. absurd (true≢false (sym p ∙ none)))
    (λ j u other e p same. let t = (h.5 j u e).0 p in no_seat j (sym unused ∙ ap h.1 (sym same) ∙ t.0)) in
    let old : (j : ℕ) (u : Knowledge) → get_elem? vs j ≡ some u → Fits h.0 seat h.2 h.3 j u =
    each_set (Fits h.0 seat h.2 h.3) views pass l (
      (λ p. absurd (true≢false (sym p ∙ none))),
      λ _. (
        mine.0,
        mine.1,
        (λ p le. let t = mine.2 p (omega (arith, le)) in (there h.1 v.made (suc (length vs)) p (λ same. omega (arith, le, same)) ∙ t.0, t.1)),
        λ k one there_is. let t = mine.3 k one there_is in (there h.1 v.made (suc (length vs)) one.pen (λ same. omega (arith, t.2, same)) ∙ t.0, t.1, omega (arith, t.2)),
      ),
    )
    (λ j u other e.
    let theirs = h.5 j u e in (
      (λ p. let t = theirs.0 p in (there h.1 v.made (suc (length vs)) u.number (λ same. no_seat j (sym unused ∙ ap h.1 (sym same) ∙ t.0)) ∙ t.0, t.1)),
      λ p. absurd (other ((theirs.1 p).0 ∙ sym mine.0)),
    )) in (
      h.0,
      seat,
      h.2,
      h.3,
      h.4,
      λ j u e.
          ⊎_elim (λ x. old j u x)
          (λ (is : r ≡ u).
          let at_last : j ≡ length vs = at_end vs r u j (λ x. apart j u x (sym (ap (λ (y : Knowledge). y.posts) is)) (sym (ap (λ (y : Knowledge). y.number) is))) e in (
            (λ p. (ap seat (sym (ap (λ (y : Knowledge). y.number) is)) ∙ here h.1 v.made (suc (length vs)) ∙ ap suc (sym at_last), sym (ap (λ (y : Knowledge). y.put) is) ∙ sym (mine.2 v.made (omega arith)).1 ∙ ap h.2 (ap (λ (y : Knowledge). y.number) is))),
            λ p. absurd (true≢false (sym p ∙ sym (ap (λ (y : Knowledge). y.takes) is))),
          ))
          (at_snoc vs r u j e),
    )
  where
    no_seat : (j : ℕ) → 0 ≡ suc j → ⊥
    no_seat j same = omega (arith, same)

-- the taker keeps what a pen posted, which ends with it
pub keeps : (pass : ℕ) (v : Knowledge) (other : ℕ) (w : Knowledge) → v.takes ≡ true → v.posts ≡ false → w.posts ≡ true
    → Merges Delivers pass v other w (record v { kept = v.kept ++ record { pen = w.number; lines = w.put } ∷ [] }) idle
keeps pass v other w may none posting items views h at two at' =
    let newest : KeptLines = record { pen = w.number; lines = w.put } in
    let both : Knowledge = record v { kept = v.kept ++ newest ∷ [] } in
    let vs : List Knowledge = set views pass both in
    let was : get_elem? views other ≡ some w = ⊎_elim (λ x. absurd (two x.0)) (λ x. x.1) (at_set views pass other both w at') in
    let theirs = (h.5 other w was).0 posting in
    let mine = (h.5 pass v at).1 may in
    let seat : ℕ → ℕ = changed h.1 w.number 0 in
    let now : (j : ℕ) (y : Knowledge) → get_elem? vs j ≡ some y → j ≢ other → Fits h.0 seat h.2 h.3 j y =
    each_set (λ j y. j ≢ other → Fits h.0 seat h.2 h.3 j y) views pass both
    (λ _. (
      (λ p. absurd (true≢false (sym p ∙ none))),
      λ _. (
        mine.0,
        mine.1,
        (λ p le. let t = mine.2 p le in (stays_zero h.1 w.number p t.0, t.1)),
        λ k one there_is.
            ⊎_elim (λ x. let t = mine.3 k one x in (stays_zero h.1 w.number one.pen t.0, t.1, t.2))
            (λ (is : newest ≡ one).
            subst (λ (y : KeptLines). IsKept seat h.2 v.made y) is (here h.1 w.number 0, theirs.1, made_before h.1 w.number v.made other theirs.0 (λ le. (mine.2 w.number le).0)))
            (at_snoc v.kept newest one k there_is),
      ),
    ))
    (λ j y apart e away.
    let t = h.5 j y e in (
      (λ p. ((there h.1 w.number 0 y.number (λ same. away (suc_same (sym ((t.0 p).0) ∙ ap h.1 same ∙ theirs.0)))) ∙ (t.0 p).0, (t.0 p).1)),
      λ p. absurd (apart ((t.1 p).0 ∙ sym mine.0)),
    )) in
    (h.0, seat, h.2, h.3, h.4, each_set (Fits h.0 seat h.2 h.3) vs other idle ((λ p. absurd (true≢false (sym p))), λ p. absurd (true≢false (sym p))) (λ j y apart e. now j y e apart))
  where
    suc_same : {a b : ℕ} → suc a ≡ suc b → a ≡ b
    suc_same same = omega (arith, same)

    -- a number with a pass was given
    made_before : (f : ℕ → ℕ) (number made place : ℕ) → f number ≡ suc place → (made ≤ number → f number ≡ 0) → number < made
    made_before f number made place given unmade = by_test (leb made number) refl
      where
        by_test : (below : Bool) → leb made number ≡ below → number < made
        by_test true is = absurd (omega (arith, given, unmade (grind (arith, nat_tests, is))))
        by_test false is = grind (arith, nat_tests, is)

-- the taker gets the oldest line
pub gets : (pass : ℕ) (v : Knowledge) → v.takes ≡ true → v.posts ≡ false → Pops Delivers pass v (λ x w. HasGot v x w)
gets pass v may none x items views h at =
    let w : Knowledge = record v { got = v.got ++ x ∷ [] } in
    let mine = (h.5 pass v at).1 may in
    let got : List AuditLine = h.3 ++ x ∷ [] in (
      w,
      (
        h.0,
        h.1,
        h.2,
        got,
        (λ p. ap (lines_by p) (append_assoc h.3 (x ∷ []) items) ∙ h.4 p),
        each_set (Fits h.0 h.1 h.2 got) views pass w ((λ p. absurd (true≢false (sym p ∙ none))), λ _. (mine.0, ap (λ l. l ++ x ∷ []) mine.1, mine.2, mine.3))
            (λ j u other e. let t = h.5 j u e in (t.0, λ p. absurd (other ((t.1 p).0 ∙ sym mine.0)))),
      ),
      (
        refl,
        of_a_pen,
        λ k one there_is. (
          lines_by one.pen items,
          (mine.3 k one there_is).1 ∙ sym (h.4 one.pen) ∙ ap (lines_by one.pen) (sym (append_assoc h.3 (x ∷ []) items)) ∙ filter-append (is_of one.pen) (h.3 ++ x ∷ []) items
              ∙ ap (λ front. lines_by one.pen (front ++ x ∷ []) ++ lines_by one.pen items) (sym mine.1),
        ),
      ),
    )
  where
    -- what is in the queue was sent, and nothing was sent under a number that was not given
    sent_one : (p : ℕ) (front rest : List AuditLine) → x.client ≡ p → lines_by p (front ++ x ∷ rest) ≡ [] → ⊥
    sent_one p front rest same is =
        let split : lines_by p (front ++ x ∷ rest) ≡ (lines_by p front ++ x ∷ []) ++ lines_by p rest =
        ap (lines_by p) (sym (append_assoc front (x ∷ []) rest)) ∙ filter-append (is_of p) (front ++ x ∷ []) rest ∙ ap (λ l. l ++ lines_by p rest) (lines_more p front x same) in
        never (lines_by p front) (lines_by p rest) (sym split ∙ is)
      where
        never : (a b : List AuditLine) → (a ++ x ∷ []) ++ b ≡ [] → ⊥
        never [] b same_list = cc
        never (y ∷ a) b same_list = cc

    of_a_pen : x.client < v.made
    of_a_pen = by_test (leb v.made x.client) refl
      where
        by_test : (below : Bool) → leb v.made x.client ≡ below → x.client < v.made
        by_test true is = absurd (sent_one x.client h.3 items refl (h.4 x.client ∙ (((h.5 pass v at).1 may).2 x.client (grind (arith, nat_tests, is))).1))
        by_test false is = grind (arith, nat_tests, is)

-- the taker learns what is left of the retired pens
pub learns : (pass : ℕ) (v : Knowledge) → v.takes ≡ true → Learns Delivers pass v (IsLeft v)
learns pass v may items views h at =
    let mine = (h.5 pass v at).1 may in
    λ k one there_is. (mine.3 k one there_is).1 ∙ sym (h.4 one.pen) ∙ ap (λ got. lines_by one.pen (got ++ items)) (sym mine.1)
