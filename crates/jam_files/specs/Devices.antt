-- What is known of the real files and of standard output: which calls failed, and nothing of what they hold.
use Rattle.std.specs.Prelude.{ℕ, List, [], None}
use Rattle.jam_outside.specs.Causes.{VaultState, SinkState}

-- for each kind of call how often it failed, and the name at which it last did; the place of the last read that
-- failed; and how many stores were made
pub record FileFaults : Type 0 where
  pub read_faults : ℕ
  pub failed : List ℕ
  pub failed_place : ℕ
  pub stores : ℕ
  pub store_faults : ℕ
  pub store_failed : List ℕ

-- before the first call
abbrev pub no_faults : FileFaults
no_faults = record { read_faults = 0; failed = []; failed_place = 0; stores = 0; store_faults = 0; store_failed = [] }

abbrev pub files_state : FileFaults → VaultState
files_state f = record { files = None; read_faults = f.read_faults; failed = f.failed; failed_place = f.failed_place; stores = f.stores; store_faults = f.store_faults; store_failed = f.store_failed }

-- of a sink that failed so often
abbrev pub output_state : ℕ → SinkState
output_state faults = record { taken = None; faults = faults }
