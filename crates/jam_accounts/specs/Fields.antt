-- Accounts and states as their fields, one after another.
use Rattle.std.specs.Prelude.{ℕ, List}
use Rattle.jam_accounts.specs.Accounts.{Account, Accounts, Storage, Preimages, Lookups, State}

abbrev pub AccountFields : Type 0
AccountFields = List ℕ × (ℕ × (ℕ × (ℕ × (ℕ × (ℕ × (Storage × (Preimages × Lookups)))))))

abbrev pub account_fields : Account → AccountFields
account_fields a = (a.code_hash, (a.balance, (a.min_accumulate, (a.min_transfer, (a.gratis, (a.created, (a.storage, (a.preimages, a.lookups))))))))

abbrev pub account_from : AccountFields → Account
account_from (code_hash, (balance, (min_accumulate, (min_transfer, (gratis, (created, (storage, (preimages, lookups)))))))) = record {
  code_hash = code_hash;
  balance = balance;
  min_accumulate = min_accumulate;
  min_transfer = min_transfer;
  gratis = gratis;
  created = created;
  storage = storage;
  preimages = preimages;
  lookups = lookups;
}

abbrev pub StateFields : Type 0
StateFields = ℕ × (ℕ × (List ℕ × Accounts))

abbrev pub state_fields : State → StateFields
state_fields s = (s.version, (s.slot, (s.entropy, s.accounts)))

abbrev pub state_from : StateFields → State
state_from (version, (slot, (entropy, accounts))) = record { version = version; slot = slot; entropy = entropy; accounts = accounts }
