-- Operations that ask in several steps.
use Rattle.std.proofs.Common.{◌≡◌, List, [], ◌∷◌, ◌++◌, Option, refl, ap, ◌∙◌, append_assoc}
use Rattle.access_vectors.specs.Asking.{Key, with_key, with_keys_of}
use Rattle.access_vectors.specs.declared.asked.Asked.{Asked}
use Rattle.access_vectors.specs.declared.asker.Asker.{Ghosts}
use Rattle.mode_questions.specs.Operations.{IsSameOperation, HasAsked}
use Rattle.mode_questions.specs.declared.operation.Operation.{Operation}

-- the keys of questions one after the other
pub keys_more : (keys : Option (List Key)) (xs ys : List Asked) → with_keys_of (with_keys_of keys xs) ys ≡ with_keys_of keys (xs ++ ys)
keys_more keys [] ys = refl
keys_more keys (x ∷ xs) ys = keys_more (with_key keys x.s x.t x.perm.class) xs ys

module _ {A : Type 0} {g : Ghosts A} (transitive : (a b c : A) → g.same a b → g.same b c → g.same a c) where
  -- what is the same operation as the same is the same
  pub same_more : (one two three : Operation A g) → IsSameOperation one two → IsSameOperation two three → IsSameOperation one three
  same_more one two three before after =
      record {
        caller = after.caller ∙ before.caller;
        asker = transitive one.asker.now two.asker.now three.asker.now before.asker after.asker;
        asker_name = after.asker_name ∙ before.asker_name;
        asked_name = after.asked_name ∙ before.asked_name;
      }

  -- questions behind questions
  pub asked_more : (one two three : Operation A g) (xs ys : List Asked) → HasAsked one two xs → HasAsked two three ys → HasAsked one three (xs ++ ys)
  asked_more one two three xs ys before after =
      record {
        asked_are = after.asked_are ∙ ap (λ (asked : List Asked). asked ++ ys) before.asked_are ∙ append_assoc one.asked.now xs ys;
        keys = after.keys ∙ ap (λ (keys : Option (List Key)). with_keys_of keys ys) before.keys ∙ keys_more (g.keys one.asker.now) xs ys;
        same = same_more one two three before.same after.same;
      }
