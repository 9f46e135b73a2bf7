-- The file of a state: its fields, one after another, and what they spell.
use Rattle.std.specs.Prelude.{ℕ, ◌==◌, Bool, true, false, List, map, Ok}
use Rattle.std.specs.Ordering.{nat_cmp}
use Rattle.std.specs.FinMap as fin
use Rattle.jam_codec.specs.Reading.{◌>>=◌}
use Rattle.jam_codec.specs.Format.{Format, any, both, by, natural_where, fixed_where, bytes_where}
use Rattle.jam_codec.specs.Lists.{blob_where, blob_after, blob_by_after, number_after, hash_and_number_cmp, hash_and_number_after, up_to, list_of, fin_map_of, nothing}
use Rattle.blake2b_core.specs.Blake2b.{digest}
use Rattle.jam_accounts.specs.Accounts.{Account, Accounts, State, Storage, Preimages, Lookups, bytes_cmp, StandUnderDigests, is_version}
use Rattle.jam_accounts.specs.Fields.{account_fields, account_from, state_fields, state_from}

-- values by key, in the order of the keys
abbrev pub storage_format : Format Storage
storage_format = fin_map_of bytes_cmp blob_after (blob_where any)

-- blobs, in the order of their digests
abbrev pub blobs_format : Format (List (List ℕ))
blobs_format = list_of any (blob_by_after digest)

-- bytes under their digest
abbrev pub under_digest : List ℕ → List ℕ × List ℕ
under_digest bytes = (digest bytes, bytes)

-- the digests of preimages are not spelled, and each stands under its own
abbrev pub preimages_format : Format Preimages
preimages_format = record {
  Fits = λ preimages. StandUnderDigests preimages × blobs_format.Fits (fin.values preimages);
  spell = λ preimages. blobs_format.spell (fin.values preimages);
  Run = blobs_format.Run;
  read = λ r. blobs_format.read r >>= λ x. Ok (fin.from_sorted {R = bytes_cmp} (map under_digest x.0), x.1);
}

-- at most three time slots
abbrev pub history_format : Format (List ℕ)
history_format = list_of (up_to 3) (λ last. fixed_where 4 any)

-- histories, by hash and then by length
abbrev pub lookups_format : Format Lookups
lookups_format = fin_map_of hash_and_number_cmp hash_and_number_after history_format

abbrev pub unless_first : Bool → Format ℕ → Format ℕ
unless_first true f = nothing 0
unless_first false f = f

-- a number that version 1 has no field for: it is 0 there
abbrev pub not_in_first : ℕ → Format ℕ → Format ℕ
not_in_first version f = unless_first (version == 1) f

-- an account of a version
abbrev pub account_format : ℕ → Format Account
account_format version =
    by account_from account_fields
    (both (bytes_where 32 any) (λ _.
    both (fixed_where 8 any) (λ _.
    both (fixed_where 8 any) (λ _.
    both (fixed_where 8 any) (λ _.
    both (not_in_first version (fixed_where 8 any)) (λ _.
    both (not_in_first version (fixed_where 4 any)) (λ _.
    both storage_format (λ _.
    both preimages_format (λ _.
    lookups_format)))))))))

-- accounts of a version, in the order of the services' numbers
abbrev pub accounts_format : ℕ → Format Accounts
accounts_format version = fin_map_of nat_cmp (number_after 4) (account_format version)

-- the version, which says what fields an account has
abbrev pub state_format : Format State
state_format =
    by state_from state_fields
    (both (natural_where is_version) (λ version.
    both (fixed_where 4 any) (λ _.
    both (bytes_where 32 any) (λ _.
    accounts_format version))))
