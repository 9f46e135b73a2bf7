-- An account that is taken out, given a delivery, and put back; and deliveries one after another.
use Rattle.std.proofs.Common.{◌≡◌, ℕ, ◌+◌, [], ◌∷◌, ◌++◌, take, Bool, true, false, cond, List, Option, Some, None, option_map, is_some, unwrap_or, Result, Ok, Err, IfOk, OnOk, OnErr, refl, ap, sym, ◌∙◌}
use Rattle.std.specs.Prelude.{if◌then◌else◌}
use Rattle.std.specs.Option.{option_and_then}
use Rattle.std.specs.Ordering.{nat_cmp, eq_by_cmp, is_eq}
use Rattle.std.specs.Cmp.{nat_cmp_total, tied_itself}
use Rattle.std.specs.FinMap as fin
use Rattle.std.specs.FinMap.{nat_cmp-IsAntisymmetric}
use Rattle.jam_accounts.specs.Accounts.{Account, Accounts}
use Rattle.jam_accounts.specs.PutBackLaws.{equal, inserted_twice, inserted_same}
use Rattle.jam_accounts.specs.Receipt.{received, with_preimage, history_after}
use Rattle.batch_file.specs.declared.delivery.Delivery.{Delivery}
use Rattle.batch_accumulate.specs.Deliveries.{Delivered, none_stored, with_account, after_delivery, after_deliveries, undelivered}

module _ (accounts : Accounts) (id : ℕ) where
  -- what was put is there
  pub get-inserted : (account : Account) → fin.get (fin.insert accounts id account) id ≡ Some account
  get-inserted account = fin.get-insert nat_cmp_total accounts id account id ∙ ap (λ order. cond (is_eq order) (Some account) (fin.get accounts id)) (tied_itself nat_cmp_total id)

  -- an account for which another stood in the meantime is put back as it was
  pub put_back : (other account : Account) (meanwhile after : Accounts) → Some account ≡ fin.get accounts id → meanwhile ≡ fin.insert accounts id other → after ≡ fin.insert meanwhile id account → after ≡ accounts
  put_back other account meanwhile after there put back = back ∙ ap (λ m. fin.insert m id account) put ∙ inserted_twice nat_cmp_total nat_cmp-IsAntisymmetric accounts id other account ∙ inserted_same nat_cmp_total nat_cmp-IsAntisymmetric accounts id account (sym there)

  changed : (n : ℕ) (account : Account) (r : Option Account) → fin.get accounts id ≡ Some account
      → record { accounts = fin.insert accounts id (unwrap_or r account); stored = if is_some r then n + 1 else n } ≡ with_account (record { accounts = accounts; stored = n }) id r
  changed n account None there = ap (λ (m : Accounts). record { accounts = m; stored = n }) (inserted_same nat_cmp_total nat_cmp-IsAntisymmetric accounts id account there)
  changed n account (Some next) there = refl

  pub one_delivered : (slot n : ℕ) (bytes : List ℕ) (other account next : Account) (meanwhile after : Accounts) (stored : Bool)
      → Some account ≡ fin.get accounts id → meanwhile ≡ fin.insert accounts id other → after ≡ fin.insert meanwhile id next
      → stored ≡ is_some (received slot bytes account) → next ≡ unwrap_or (received slot bytes account) account
      → record { accounts = after; stored = if stored then n + 1 else n } ≡ with_account (record { accounts = accounts; stored = n }) id (option_and_then (received slot bytes) (fin.get accounts id))
  one_delivered slot n bytes other account next meanwhile after stored there put back whether what =
      let in_place : after ≡ fin.insert accounts id (unwrap_or (received slot bytes account) account) =
      back ∙ (λ i. fin.insert (put i) id (what i)) ∙ inserted_twice nat_cmp_total nat_cmp-IsAntisymmetric accounts id other (unwrap_or (received slot bytes account) account) in
      (λ i. record { accounts = in_place i; stored = if whether i then n + 1 else n })
      ∙ changed n account (received slot bytes account) (sym there)
      ∙ ap (λ (found : Option Account). with_account (record { accounts = accounts; stored = n }) id (option_and_then (received slot bytes) found)) there

-- what was received, by the answer
module _ {E : Type 0} (accounts : Accounts) (id slot : ℕ) (bytes read : List ℕ) (other account next : Account) (meanwhile after : Accounts)
    (same : read ≡ bytes) (there : Some account ≡ fin.get accounts id) (put : meanwhile ≡ fin.insert accounts id other) (back : after ≡ fin.insert meanwhile id next) where
  pub delivered_as : (r : Result Bool E) → IfOk r (λ stored. stored ≡ is_some (received slot read account)) → OnOk r (next ≡ unwrap_or (received slot read account) account)
      → IfOk r (λ stored. (n : ℕ) → record { accounts = after; stored = if stored then n + 1 else n } ≡ with_account (record { accounts = accounts; stored = n }) id (option_and_then (received slot bytes) (fin.get accounts id)))
  delivered_as (Ok stored) whether what = λ n.
      one_delivered accounts id slot n bytes other account next meanwhile after stored there put back
      (whether ∙ ap (λ b. is_some (received slot b account)) same) (what ∙ ap (λ b. unwrap_or (received slot b account) account) same)
  delivered_as (Err e) whether what = tt

  pub left_as : (r : Result Bool E) → OnErr r (next ≡ account) → OnErr r (after ≡ accounts)
  left_as (Ok stored) as_before = tt
  left_as (Err e) as_before = put_back accounts id other account meanwhile after there put (back ∙ ap (fin.insert meanwhile id) as_before)

-- one delivery more
after_one_more : (slot : ℕ) (done : Delivered) (deliveries : List Delivery) (delivery : Delivery) → after_deliveries slot done (deliveries ++ delivery ∷ []) ≡ after_delivery slot (after_deliveries slot done deliveries) delivery
unfolding after_deliveries
after_one_more slot done [] delivery = refl
after_one_more slot done (first ∷ deliveries) delivery = after_one_more slot (after_delivery slot done first) deliveries delivery

pub delivered_more : (slot n m at : ℕ) (before accounts after : Accounts) (deliveries : List Delivery) (delivery : Delivery) (stored : Bool)
    → take (at + 1) deliveries ≡ take at deliveries ++ delivery ∷ []
    → after_deliveries slot (none_stored before) (take at deliveries) ≡ record { accounts = accounts; stored = n }
    → record { accounts = after; stored = if stored then n + 1 else n } ≡ after_delivery slot (record { accounts = accounts; stored = n }) delivery
    → m ≡ (if stored then n + 1 else n)
    → after_deliveries slot (none_stored before) (take (at + 1) deliveries) ≡ record { accounts = after; stored = m }
delivered_more slot n m at before accounts after deliveries delivery stored next so_far one count =
    ap (after_deliveries slot (none_stored before)) next ∙ after_one_more slot (none_stored before) (take at deliveries) delivery
    ∙ ap (λ (done : Delivered). after_delivery slot done delivery) so_far ∙ sym one ∙ (λ i. record { accounts = after; stored = sym count i })

pub none_yet : (slot : ℕ) (accounts : Accounts) (deliveries : List Delivery) → after_deliveries slot (none_stored accounts) (take 0 deliveries) ≡ none_stored accounts
unfolding after_deliveries
none_yet slot accounts deliveries = refl

-- what deliveries leave as it was
received_leaves : (account : Account) (bytes : List ℕ) (history : Option (List ℕ)) → (next : Account) → option_map (with_preimage bytes account) history ≡ Some next → undelivered next ≡ undelivered account
received_leaves account bytes None next e = absurd (cc e)
received_leaves account bytes (Some history) next e =
    let same : with_preimage bytes account history ≡ next = cc in
    ap undelivered (sym same)

put_leaves : (accounts : Accounts) (service id : ℕ) (account next : Account) (b : Bool) → eq_by_cmp nat_cmp id service ≡ b → fin.get accounts service ≡ Some account → undelivered next ≡ undelivered account
    → option_map undelivered (cond b (Some next) (fin.get accounts id)) ≡ option_map undelivered (fin.get accounts id)
put_leaves accounts service id account next true here there leaves =
    ap (λ (a : Account). Some a) leaves ∙ ap (option_map undelivered) (sym there ∙ ap (fin.get accounts) (sym (nat_cmp-IsAntisymmetric id service (equal (nat_cmp id service) here))))
put_leaves accounts service id account next false here there leaves = refl

either_leaves : (slot : ℕ) (done : Delivered) (service : ℕ) (bytes : List ℕ) (id : ℕ) (account : Account) (r : Option Account) → fin.get done.accounts service ≡ Some account → received slot bytes account ≡ r
    → option_map undelivered (fin.get (with_account done service r).accounts id) ≡ option_map undelivered (fin.get done.accounts id)
unfolding received
either_leaves slot done service bytes id account None there is = refl
either_leaves slot done service bytes id account (Some next) there is =
    ap (option_map undelivered) (fin.get-insert nat_cmp_total done.accounts service next id)
    ∙ put_leaves done.accounts service id account next (eq_by_cmp nat_cmp id service) refl there (received_leaves account bytes (history_after slot bytes account) next is)

delivery_leaves : (slot : ℕ) (done : Delivered) (service : ℕ) (bytes : List ℕ) (id : ℕ) (found : Option Account) → fin.get done.accounts service ≡ found
    → option_map undelivered (fin.get (with_account done service (option_and_then (received slot bytes) found)).accounts id) ≡ option_map undelivered (fin.get done.accounts id)
delivery_leaves slot done service bytes id None is = refl
delivery_leaves slot done service bytes id (Some account) is = either_leaves slot done service bytes id account (received slot bytes account) is refl

pub deliveries_leave : (slot : ℕ) (done : Delivered) (deliveries : List Delivery) (id : ℕ) → option_map undelivered (fin.get (after_deliveries slot done deliveries).accounts id) ≡ option_map undelivered (fin.get done.accounts id)
unfolding after_deliveries
deliveries_leave slot done [] id = refl
deliveries_leave slot done (delivery ∷ deliveries) id =
    deliveries_leave slot (after_delivery slot done delivery) deliveries id
    ∙ delivery_leaves slot done delivery.service delivery.bytes id (fin.get done.accounts delivery.service) refl
