-- A preimage that is delivered to an account (Gray Paper 0.7.0, chapters 9 and 12; when it is stored is this project's own).
use Rattle.std.specs.Prelude.{ℕ, List, length, Option}
use Rattle.std.specs.Option.{option_map, option_and_then}
use Rattle.std.specs.FinMap as fin
use Rattle.blake2b_core.specs.Blake2b.{digest}
use Rattle.preimage_store.specs.History.{deliver}
use Rattle.jam_accounts.specs.Accounts.{Account}

-- the history of these bytes once they are delivered at a slot: [slot] where it is []; none where it is another, or not there
abbrev pub history_after : ℕ → List ℕ → Account → Option (List ℕ)
history_after slot bytes account = option_and_then (λ history. deliver history slot) (fin.get account.lookups (digest bytes, length bytes))

-- the account with these bytes as a preimage, and with this history of them
abbrev pub with_preimage : List ℕ → Account → List ℕ → Account
with_preimage bytes account history = record account {
  preimages = fin.insert account.preimages (digest bytes) bytes;
  lookups = fin.insert account.lookups (digest bytes, length bytes) history;
}

-- the account after the delivery of these bytes; none where they are passed over
unfoldable pub received : ℕ → List ℕ → Account → Option Account
received slot bytes account = option_map (with_preimage bytes account) (history_after slot bytes account)
