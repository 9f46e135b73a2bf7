-- The octets of the own account do not rise where a history is put in the place of one.
use Rattle.std.proofs.Common.{◌≡◌, ℕ, ◌<◌, ◌^◌, Option, Some, None, IsSome, unwrap_or, List, [], sym, subst, refl}
use Rattle.std.specs.Prelude.{T}
use Rattle.jam_accounts.specs.Footprint.{octets_of}
use Rattle.account_context.specs.Context.{Pair, account_in, own_account, history_in, set_history, IsOwnWithinBound}
use Rattle.account_context.specs.ContextLaws.{within_replaced}

is_there : (found : Option (List ℕ)) → IsSome found → found ≡ Some (unwrap_or found [])
is_there None there = absurd (subst T (sym there) tt)
is_there (Some history) there = refl

pub fits_with : (pair : Pair) (hash : List ℕ) (length : ℕ) → IsSome (account_in pair pair.service) → octets_of (own_account pair) < 2 ^ 100
    → (history : List ℕ) → IsSome (history_in pair pair.service hash length) → IsOwnWithinBound (set_history pair hash length (Some history))
fits_with pair hash length there below history kept =
    within_replaced pair there below hash length (unwrap_or (history_in pair pair.service hash length) []) history (is_there (history_in pair pair.service hash length) kept)
