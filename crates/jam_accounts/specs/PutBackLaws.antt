-- What is put into a finite map where something stood.
use Rattle.std.proofs.Common.{◌≡◌, Bool, true, false, cond, Some, None, Option, refl, sym, ap, subst, ◌∙◌, Ordering}
use Rattle.std.specs.Prelude.{T}
use Rattle.std.specs.declared.cmp.Ordering.TheVariants.{Less, Equal, Greater}
use Rattle.std.specs.Ordering.{eq_by_cmp, is_eq}
use Rattle.std.specs.Cmp.{IsTotalOrder}
use Rattle.std.specs.FinMap as fin
use Rattle.std.specs.FinMap.{IsAntisymmetric}

pub equal : (r : Ordering) → is_eq r ≡ true → r ≡ Equal
equal Less h = absurd (subst T (sym h) tt)
equal Equal h = refl
equal Greater h = absurd (subst T (sym h) tt)

either_put : {A : Type 0} (b : Bool) (new old other : Option A) → cond b new (cond b old other) ≡ cond b new other
either_put true new old other = refl
either_put false new old other = refl

module _ {K X : Type 0} {R : K → K → Ordering} (o : IsTotalOrder R) (same : IsAntisymmetric R) (m : fin.FinMap R X) (k : K) where
  -- what is taken out and put back is as if it were put in its place
  pub inserted_back : (v : X) → fin.insert (fin.remove m k) k v ≡ fin.insert m k v
  inserted_back v = fin.same_map o same (fin.insert (fin.remove m k) k v) (fin.insert m k v) (λ q.
      fin.get-insert o (fin.remove m k) k v q ∙ ap (cond (eq_by_cmp R q k) (Some v)) (fin.get-remove o m k q)
      ∙ either_put (eq_by_cmp R q k) (Some v) None (fin.get m q) ∙ sym (fin.get-insert o m k v q))

  -- of two that are put in one place the later stays
  pub inserted_twice : (u v : X) → fin.insert (fin.insert m k u) k v ≡ fin.insert m k v
  inserted_twice u v = fin.same_map o same (fin.insert (fin.insert m k u) k v) (fin.insert m k v) (λ q.
      fin.get-insert o (fin.insert m k u) k v q ∙ ap (cond (eq_by_cmp R q k) (Some v)) (fin.get-insert o m k u q)
      ∙ either_put (eq_by_cmp R q k) (Some v) (Some u) (fin.get m q) ∙ sym (fin.get-insert o m k v q))

  same_get : (b : Bool) (q : K) (found : Option X) → fin.get m k ≡ found → eq_by_cmp R q k ≡ b → cond b found (fin.get m q) ≡ fin.get m q
  same_get true q found there here = sym there ∙ ap (fin.get m) (sym (same q k (equal (R q k) here)))
  same_get false q found there other = refl

  -- what stands in its place may be put there again
  pub inserted_same : (v : X) → fin.get m k ≡ Some v → fin.insert m k v ≡ m
  inserted_same v there = fin.same_map o same (fin.insert m k v) m (λ q. fin.get-insert o m k v q ∙ same_get (eq_by_cmp R q k) q (Some v) there refl)
