-- The parts of a context that changes are kept of, each now and as it was saved, over what there was at the start.
use Rattle.std.specs.Prelude.{ℕ, Bool, List, Vec}
use Rattle.jam_accounts.specs.Accounts.{Storage, Preimages, Lookups}
use Rattle.account_overlay.specs.declared.layer.Change.{Change}
use Rattle.account_overlay.specs.Layers.{Halves, seen_change, dropped, halves_of}

abbrev pub values_of : {A B : Type 0} → Storage → (places journal : List (Vec ℕ A × Change (Vec ℕ B))) → Halves Storage
values_of base places journal = halves_of (λ k. k.items) (seen_change (λ v. v.items)) base places journal

-- a preimage may only be dropped
abbrev pub preimages_of : Preimages → (places journal : List (List ℕ × Bool)) → Halves Preimages
preimages_of base places journal = halves_of (λ k. k) dropped base places journal

abbrev pub histories_of : Lookups → (places journal : List ((List ℕ × ℕ) × Change (List ℕ))) → Halves Lookups
histories_of base places journal = halves_of (λ k. k) (seen_change (λ v. v)) base places journal
