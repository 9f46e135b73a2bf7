-- The context now and the one that was saved, from the parts that an overlay keeps: the service's own account, the others over those
-- at the start, and what was issued.
use Rattle.std.specs.Prelude.{ℕ, List, Option, IsSome, take, refl}
use Rattle.std.specs.Coded.{Coded, code_by, coded×, coded_ℕ, coded_list, coded_option}
use Rattle.std.specs.FinMap as fin
use Rattle.jam_accounts.specs.Accounts.{Account, Accounts}
use Rattle.account_context.specs.declared.transfer.Transfer.{Transfer}
use Rattle.account_context.specs.declared.provided.Provided.{Provided}
use Rattle.account_context.specs.Coded.{coded_transfer, coded_provided}
use Rattle.account_context.specs.NewIds.{IsInRing}
use Rattle.account_context.specs.Context.{Context, Pair}
use Rattle.account_overlay.specs.Layers.{Halves}
use Rattle.account_overlay.specs.Others.{AccountsOver}

-- a context without its accounts
pub record Issue : Type 0 where
  pub candidate : ℕ
  pub transfers : List Transfer
  pub yielded : Option (List ℕ)
  pub provided : List Provided

abbrev pub coded_issue : Coded Issue
coded_issue =
    code_by (ℕ × (List Transfer × (Option (List ℕ) × List Provided))) (coded× coded_ℕ (coded× (coded_list coded_transfer) (coded× (coded_option (coded_list coded_ℕ)) (coded_list coded_provided))))
    (λ i. (i.candidate, (i.transfers, (i.yielded, i.provided)))) (λ p. record { candidate = p.0; transfers = p.1.0; yielded = p.1.1.0; provided = p.1.1.1 }) (λ _. refl)

-- of the two lists so much was there when they were saved
abbrev pub issued_of : (candidate saved_candidate : ℕ) → (transfers : List Transfer) → (saved_transfers : ℕ) → (yielded saved_yielded : Option (List ℕ)) → (provided : List Provided) → (saved_provided : ℕ) → Halves Issue
issued_of candidate saved_candidate transfers saved_transfers yielded saved_yielded provided saved_provided = record {
  now = record { candidate = candidate; transfers = transfers; yielded = yielded; provided = provided };
  saved = record { candidate = saved_candidate; transfers = take saved_transfers transfers; yielded = saved_yielded; provided = take saved_provided provided };
}

-- the service's own account stands among the others
abbrev pub context_with : ℕ → Accounts → Account → Issue → Context
context_with service others own issue = record {
  accounts = fin.insert others service own;
  candidate = issue.candidate;
  transfers = issue.transfers;
  yielded = issue.yielded;
  provided = issue.provided;
}

abbrev pub pair_with : ℕ → AccountsOver → Halves Account → Halves Issue → Pair
pair_with service others own issued = record {
  base = others.base;
  service = service;
  now = context_with service others.now own.now issued.now;
  saved = context_with service others.saved own.saved issued.saved;
}

-- what holds of the parts: the service has an account everywhere, and the candidates are numbers that new services may have
pub record IsOverlaid (service : ℕ) (others : AccountsOver) (issued : Halves Issue) : Type 0 where
  pub there_base : IsSome (fin.get others.base service)
  pub there_now : IsSome (fin.get others.now service)
  pub there_saved : IsSome (fin.get others.saved service)
  pub ring_now : IsInRing issued.now.candidate
  pub ring_saved : IsInRing issued.saved.candidate
