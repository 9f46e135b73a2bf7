-- What the vaults and sinks in memory are as vaults and sinks.
use Rattle.std.specs.Prelude.{ℕ, Bool, not, ◌||◌, nat_eq, List, [], ◌++◌, Some, Result, Ok, Err, refl}
use Rattle.std.specs.List.{list_any}
use Rattle.std.specs.Coded.{Coded, code_by, coded×, coded_ℕ, coded_list}
use Rattle.std.specs.FinMap as fin
use Rattle.jam_outside.specs.Files.{Files}
use Rattle.jam_outside.specs.Causes.{VaultState, SinkState, counted}
use Rattle.jam_outside.specs.declared.vault.OutsideError.{OutsideError}
use Rattle.jam_outside.specs.declared.vault.OutsideError.TheVariants as outside

abbrev pub coded_files : Coded Files
coded_files = fin.code (coded_list coded_ℕ) (coded_list coded_ℕ)

-- files, and how many stores were made
pub record SureFiles : Type 0 where
  pub files : Files
  pub stores : ℕ

abbrev pub coded_sure_files : Coded SureFiles
coded_sure_files = code_by (Files × ℕ) (coded× coded_files coded_ℕ) (λ v. (v.files, v.stores)) (λ p. record { files = p.0; stores = p.1 }) (λ _. refl)

-- a vault of these that never fails
abbrev pub sure_vault : SureFiles → VaultState
sure_vault v = record { files = Some v.files; read_faults = 0; failed = []; failed_place = 0; stores = v.stores; store_faults = 0; store_failed = [] }

-- a sink that took these bytes and never fails
abbrev pub sure_sink : List ℕ → SinkState
sure_sink bytes = record { taken = Some bytes; faults = 0 }

-- after so many calls of a kind the next one is listed, where the first call has the number 1
abbrev pub is_next : List ℕ → ℕ → Bool
is_next listed made = list_any (λ k. nat_eq k (counted made)) listed

-- files, and for each kind of call the numbers of those that fail, how many were made,
-- how many failed, the name at which the last of these did, and for a read its place
pub record FailingVault : Type 0 where
  pub files : Files
  pub fail_reads : List ℕ
  pub fail_stores : List ℕ
  pub reads : ℕ
  pub stores : ℕ
  pub read_faults : ℕ
  pub store_faults : ℕ
  pub failed : List ℕ
  pub failed_place : ℕ
  pub store_failed : List ℕ

abbrev pub coded_failing_vault : Coded FailingVault
coded_failing_vault =
    code_by (Files × (List ℕ × (List ℕ × (ℕ × (ℕ × (ℕ × (ℕ × (ℕ × (List ℕ × List ℕ)))))))))
    (coded× coded_files (coded× (coded_list coded_ℕ) (coded× (coded_list coded_ℕ) (coded× coded_ℕ (coded× coded_ℕ (coded× coded_ℕ (coded× coded_ℕ (coded× coded_ℕ (coded× (coded_list coded_ℕ) (coded_list coded_ℕ))))))))))
    (λ v. (v.files, (v.fail_reads, (v.fail_stores, (v.reads, (v.stores, (v.read_faults, (v.store_faults, (v.failed_place, (v.failed, v.store_failed))))))))))
    (λ p. record { files = p.0; fail_reads = p.1.0; fail_stores = p.1.1.0; reads = p.1.1.1.0; stores = p.1.1.1.1.0; read_faults = p.1.1.1.1.1.0; store_faults = p.1.1.1.1.1.1.0; failed_place = p.1.1.1.1.1.1.1.0; failed = p.1.1.1.1.1.1.1.1.0; store_failed = p.1.1.1.1.1.1.1.1.1 })
    (λ _. refl)

abbrev pub vault_state : FailingVault → VaultState
vault_state v = record { files = Some v.files; read_faults = v.read_faults; failed = v.failed; failed_place = v.failed_place; stores = v.stores; store_faults = v.store_faults; store_failed = v.store_failed }

-- a read is refused exactly where its number is listed or the name is not there
abbrev pub refuses_read : FailingVault → List ℕ → Bool
refuses_read v name = is_next v.fail_reads v.reads || not (fin.contains_key v.files name)

abbrev pub refuses_store : FailingVault → Bool
refuses_store v = is_next v.fail_stores v.stores

abbrev pub after_read : {X : Type 0} → Result X OutsideError → FailingVault → List ℕ → ℕ → FailingVault
after_read (Ok x) v name place = record v { reads = counted v.reads }
after_read (Err outside.Failed) v name place = record v { reads = counted v.reads; read_faults = counted v.read_faults; failed = name; failed_place = place }
after_read (Err outside.NoMemory) v name place = record v { reads = counted v.reads }

abbrev pub after_store : {X : Type 0} → Result X OutsideError → FailingVault → List ℕ → List ℕ → FailingVault
after_store (Ok x) v name bytes = record v { stores = counted v.stores; files = fin.insert v.files name bytes }
after_store (Err outside.Failed) v name bytes = record v { stores = counted v.stores; store_faults = counted v.store_faults; store_failed = name }
after_store (Err outside.NoMemory) v name bytes = record v { stores = counted v.stores }

-- the bytes taken, the numbers of the calls that fail, how many were made and how many failed
pub record FailingSink : Type 0 where
  pub taken : List ℕ
  pub fail : List ℕ
  pub puts : ℕ
  pub faults : ℕ

abbrev pub sink_state : FailingSink → SinkState
sink_state s = record { taken = Some s.taken; faults = s.faults }

abbrev pub refuses_put : FailingSink → Bool
refuses_put s = is_next s.fail s.puts

abbrev pub after_put : {X : Type 0} → Result X OutsideError → FailingSink → List ℕ → FailingSink
after_put (Ok x) s bytes = record s { puts = counted s.puts; taken = s.taken ++ bytes }
after_put (Err outside.Failed) s bytes = record s { puts = counted s.puts; faults = counted s.faults }
after_put (Err outside.NoMemory) s bytes = record s { puts = counted s.puts }
