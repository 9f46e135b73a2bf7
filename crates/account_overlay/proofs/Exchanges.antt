-- What the service's own account takes up, once a value or a history is put or dropped.
use Rattle.std.proofs.Common.{◌≡◌, ℕ, ◌+◌, ◌-◌, ◌≤◌, ◌<◌, ◌^◌, Bool, List, length, Option, Some, None, is_some, option_map, unwrap_or, refl, sym, ap, subst, ◌∙◌, arith, Bor}
use Rattle.std.specs.Prelude.{if◌then◌else◌}
use Rattle.std.specs.FinMap as fin
use Rattle.jam_accounts.specs.Accounts.{Account, Storage, Preimages, Lookups}
use Rattle.jam_accounts.specs.Footprint.{Footprint, footprint_of, items_of, octets_of, IsBounded}
use Rattle.jam_accounts.specs.FootprintLaws.{items_below}
use Rattle.account_context.specs.declared.account_view.AccountView.{AccountView}
use Rattle.account_context.specs.Context.{with_history}
use Rattle.account_context.specs.ContextLaws.{octets-with_value, items-with_value, octets-without_value, items-without_value, octets-with_history, items-with_history, octets-without_history, items-without_history}
use Rattle.account_overlay.specs.Layers.{Halves, with_value}
use Rattle.account_overlay.specs.Own.{account_with, own_of, IsCounted, AreCounted, with_stored, IsRoomFor}

-- what an account takes up follows from what was taken up before, what is gone, and what there is more
pub record Exchanged (account : Account) (before gone more : Footprint) : Type 0 where
  pub items : items_of account + gone.items ≡ before.items + more.items
  pub octets : octets_of account + gone.octets ≡ before.octets + more.octets
  pub within : octets_of account < 2 ^ 100

module _ (account : Account) (before gone more : Footprint) (exchanged : Exchanged account before gone more) where
  pub items_enough : gone.items ≤ before.items + more.items
  items_enough = omega (arith, exchanged.items)

  pub octets_enough : gone.octets ≤ before.octets + more.octets
  octets_enough = omega (arith, exchanged.octets)

  items_are : before.items + more.items - gone.items ≡ items_of account
  items_are = omega (arith, exchanged.items)

  octets_are : before.octets + more.octets - gone.octets ≡ octets_of account
  octets_are = omega (arith, exchanged.octets)

  pub bounded : IsBounded (record { items = before.items + more.items - gone.items; octets = before.octets + more.octets - gone.octets })
  bounded = record {
    items = omega (arith, items_are, octets_are, items_below account);
    octets = omega (arith, octets_are, exchanged.within);
  }

  pub exchanged_is : record { items = before.items + more.items - gone.items; octets = before.octets + more.octets - gone.octets } ≡ footprint_of account
  exchanged_is = λ i. record { items = items_are i; octets = octets_are i }

-- ---- sums of equal numbers

four : (a b b' c c' d d' : ℕ) → b ≡ b' → c ≡ c' → d ≡ d' → a + b' ≡ c' + d' → a + b ≡ c + d
four a b b' c c' d d' q r s h = omega (arith, q, r, s, h)

nothing_more : (a b c : ℕ) → a + b ≡ c → a + b ≡ c + 0
nothing_more a b c h = omega (arith, h)

no_more : (a b c : ℕ) → a + b ≡ c → c < 2 ^ 100 → a < 2 ^ 100
no_more a b c h less = omega (arith, h, less)

-- ---- a value

behind : (weight : List ℕ → ℕ) (seen : Option (Bor (List ℕ))) (value : Option (List ℕ)) → option_map (λ v. v.now) seen ≡ value → unwrap_or (option_map (λ v. weight v.now) seen) 0 ≡ unwrap_or (option_map weight value) 0
behind weight None value is = ap (λ o. unwrap_or (option_map weight o) 0) is
behind weight (Some v) value is = ap (λ o. unwrap_or (option_map weight o) 0) is

module _ (account : Account) (key : List ℕ) where
  items_stored : (value : Option (List ℕ)) → items_of (with_stored key value account) + unwrap_or (option_map (λ v. 1) (fin.get account.storage key)) 0 ≡ items_of account + unwrap_or (option_map (λ v. 1) value) 0
  items_stored None = nothing_more _ _ _ (items-without_value account key)
  items_stored (Some v) = items-with_value account key v

  octets_stored : (value : Option (List ℕ)) → octets_of (with_stored key value account) + unwrap_or (option_map (λ v. 34 + length key + length v) (fin.get account.storage key)) 0 ≡ octets_of account + unwrap_or (option_map (λ v. 34 + length key + length v) value) 0
  octets_stored None = nothing_more _ _ _ (octets-without_value account key)
  octets_stored (Some v) = octets-with_value account key v

  within_stored : (value : Option (List ℕ)) → octets_of account < 2 ^ 100 → IsRoomFor key value account → octets_of (with_stored key value account) < 2 ^ 100
  within_stored None within room = no_more _ _ _ (octets-without_value account key) within
  within_stored (Some v) within room = room

  pub value_exchanged : (view : AccountView) → IsCounted view account → (value : Option (List ℕ)) → IsRoomFor key value account → (old new : Option (Bor (List ℕ))) (gone more : Footprint)
      → option_map (λ v. v.now) old ≡ fin.get account.storage key → option_map (λ v. v.now) new ≡ value
      → gone.items ≡ unwrap_or (option_map (λ v. 1) old) 0 → gone.octets ≡ unwrap_or (option_map (λ v. 34 + length key + length v.now) old) 0
      → more.items ≡ unwrap_or (option_map (λ v. 1) new) 0 → more.octets ≡ unwrap_or (option_map (λ v. 34 + length key + length v.now) new) 0
      → Exchanged (with_stored key value account) view.footprint gone more
  value_exchanged view counted value room old new gone more was is gone_items gone_octets more_items more_octets = record {
    items = four _ _ _ _ _ _ _ (gone_items ∙ behind (λ v. 1) old _ was) (ap (λ (f : Footprint). f.items) counted.footprint) (more_items ∙ behind (λ v. 1) new _ is) (items_stored value);
    octets = four _ _ _ _ _ _ _ (gone_octets ∙ behind (λ v. 34 + length key + length v) old _ was) (ap (λ (f : Footprint). f.octets) counted.footprint) (more_octets ∙ behind (λ v. 34 + length key + length v) new _ is) (octets_stored value);
    within = within_stored value counted.within room;
  }

-- ---- a history

there_weighs : {A : Type 0} (n : ℕ) (there : Bool) (seen found : Option A) → there ≡ is_some seen → seen ≡ found → (if there then n else 0) ≡ unwrap_or (option_map (λ v. n) found) 0
there_weighs {A} n there seen found answer is = ap (λ b. if b then n else 0) (answer ∙ ap is_some is) ∙ by found
  where
    by : (found : Option A) → (if is_some found then n else 0) ≡ unwrap_or (option_map (λ v. n) found) 0
    by None = refl
    by (Some v) = refl

module _ (account : Account) (hash : List ℕ) (n : ℕ) where
  items_history : (history : Option (List ℕ)) → items_of (with_history hash n history account) + unwrap_or (option_map (λ h. 2) (fin.get account.lookups (hash, n))) 0 ≡ items_of account + unwrap_or (option_map (λ h. 2) history) 0
  items_history None = nothing_more _ _ _ (items-without_history account hash n)
  items_history (Some history) = items-with_history account hash n history

  octets_history : (history : Option (List ℕ)) → octets_of (with_history hash n history account) + unwrap_or (option_map (λ h. 81 + n) (fin.get account.lookups (hash, n))) 0 ≡ octets_of account + unwrap_or (option_map (λ h. 81 + n) history) 0
  octets_history None = nothing_more _ _ _ (octets-without_history account hash n)
  octets_history (Some history) = octets-with_history account hash n history

  pub history_exchanged : (view : AccountView) → IsCounted view account → (history old : Option (List ℕ)) → octets_of (with_history hash n history account) < 2 ^ 100 → (was is : Bool) (gone more : Footprint)
      → old ≡ fin.get account.lookups (hash, n) → was ≡ is_some old → is ≡ is_some history
      → gone.items ≡ (if was then 2 else 0) → gone.octets ≡ (if was then 81 + n else 0) → more.items ≡ (if is then 2 else 0) → more.octets ≡ (if is then 81 + n else 0)
      → Exchanged (with_history hash n history account) view.footprint gone more
  history_exchanged view counted history old room was is gone more found was_there is_there gone_items gone_octets more_items more_octets = record {
    items = four _ _ _ _ _ _ _ (gone_items ∙ there_weighs 2 was old _ was_there found) (ap (λ (f : Footprint). f.items) counted.footprint) (more_items ∙ there_weighs 2 is history _ is_there refl) (items_history history);
    octets = four _ _ _ _ _ _ _ (gone_octets ∙ there_weighs (81 + n) was old _ was_there found) (ap (λ (f : Footprint). f.octets) counted.footprint) (more_octets ∙ there_weighs (81 + n) is history _ is_there refl) (octets_history history);
    within = room;
  }

-- ---- the two halves stay counted

pub with_history_is : (account : Account) (hash : List ℕ) (n : ℕ) (history : Option (List ℕ)) → with_history hash n history account ≡ record account { lookups = with_value account.lookups (hash, n) history }
with_history_is account hash n None = refl
with_history_is account hash n (Some history) = refl

module _ (view saved : AccountView) (values : Halves Storage) (preimages : Halves Preimages) (histories : Halves Lookups) (counted : AreCounted view saved (own_of view saved values preimages histories))
    (gone more footprint : Footprint) (is : footprint ≡ record { items = view.footprint.items + more.items - gone.items; octets = view.footprint.octets + more.octets - gone.octets }) where
  pub counted_stored : (key : List ℕ) (value : Option (List ℕ)) (changed : Halves Storage) → changed ≡ record values { now = with_value values.now key value }
      → Exchanged (with_stored key value (account_with view values.now preimages.now histories.now)) view.footprint gone more
      → AreCounted (record view { footprint = footprint }) saved (own_of (record view { footprint = footprint }) saved changed preimages histories)
  counted_stored key value changed same exchanged =
      subst (λ (vs : Halves Storage). AreCounted (record view { footprint = footprint }) saved (own_of (record view { footprint = footprint }) saved vs preimages histories)) (sym same) (record {
        counted_now = record {
          footprint = is ∙ exchanged_is (with_stored key value (account_with view values.now preimages.now histories.now)) view.footprint gone more exchanged;
          within = exchanged.within;
        };
        counted_saved = counted.counted_saved;
      })

  pub counted_history : (hash : List ℕ) (n : ℕ) (history : Option (List ℕ)) (changed : Halves Lookups) → changed ≡ record histories { now = with_value histories.now (hash, n) history }
      → Exchanged (with_history hash n history (account_with view values.now preimages.now histories.now)) view.footprint gone more
      → AreCounted (record view { footprint = footprint }) saved (own_of (record view { footprint = footprint }) saved values preimages changed)
  counted_history hash n history changed same exchanged =
      let account : Account = account_with view values.now preimages.now histories.now in
      let put : with_history hash n history account ≡ record account { lookups = with_value histories.now (hash, n) history } = with_history_is account hash n history in
      subst (λ (hs : Halves Lookups). AreCounted (record view { footprint = footprint }) saved (own_of (record view { footprint = footprint }) saved values preimages hs)) (sym same) (record {
        counted_now = record {
          footprint = is ∙ exchanged_is (with_history hash n history account) view.footprint gone more exchanged ∙ ap footprint_of put;
          within = subst (λ (a : Account). octets_of a < 2 ^ 100) put exchanged.within;
        };
        counted_saved = counted.counted_saved;
      })
