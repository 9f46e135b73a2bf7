-- The history of a preimage that a service asked for: a list of at most three time slots (Gray Paper 0.7.0,
-- chapter 9 and appendix B). [] was asked for and never available; [x] is available since x; [x, y] was
-- available from x on and no longer at y; [x, y, z] was so, and is available again since z.
use Rattle.std.specs.Prelude.{ℕ, ◌+◌, ◌*◌, ◌^◌, Bool, false, ◌&&◌, ◌||◌, nat_lt, nat_le, List, [], ◌∷◌, Option, Some, None, Result, Ok, Err, if◌then◌else◌}
use Rattle.preimage_store.specs.declared.history.Huh.{Huh}
use Rattle.preimage_store.specs.declared.history.Forgot.{Forgot}
use Rattle.preimage_store.specs.declared.history.Forgot.TheVariants.{Dropped, Kept}

-- for how many time slots a preimage that was forgotten is kept
abbrev pub expunge_period : ℕ
expunge_period = 19_200

-- forgotten at y, and now the period is over
abbrev pub is_expunged : ℕ → ℕ → Bool
is_expunged y now = nat_lt (y + expunge_period) now

abbrev pub huh : {X : Type 0} → Result X Huh
huh = Err (record {})

-- a preimage is asked for, of which there was this history or none
abbrev pub solicit : Option (List ℕ) → ℕ → Result (List ℕ) Huh
solicit None now = Ok []
solicit (Some []) now = huh
solicit (Some (x ∷ [])) now = huh
solicit (Some (x ∷ y ∷ [])) now = Ok (x ∷ y ∷ now ∷ [])
solicit (Some (x ∷ y ∷ z ∷ more)) now = huh

-- a preimage is asked for no longer
abbrev pub forget : List ℕ → ℕ → Result Forgot Huh
forget [] now = Ok Dropped
forget (x ∷ []) now = Ok (Kept (x ∷ now ∷ []))
forget (x ∷ y ∷ []) now = if is_expunged y now then Ok Dropped else huh
forget (x ∷ y ∷ w ∷ []) now = if is_expunged y now then Ok (Kept (w ∷ now ∷ [])) else huh
forget (x ∷ y ∷ w ∷ z ∷ more) now = huh

-- a preimage is available at a time
abbrev pub available : List ℕ → ℕ → Bool
available [] at = false
available (x ∷ []) at = nat_le x at
available (x ∷ y ∷ []) at = nat_le x at && nat_lt at y
available (x ∷ y ∷ z ∷ []) at = (nat_le x at && nat_lt at y) || nat_le z at
available (x ∷ y ∷ z ∷ w ∷ more) at = false

-- the two words that answer a query: how many slots and the first, the second and the third
abbrev pub query_words : List ℕ → ℕ × ℕ
query_words [] = (0, 0)
query_words (x ∷ []) = (1 + 2 ^ 32 * x, 0)
query_words (x ∷ y ∷ []) = (2 + 2 ^ 32 * x, y)
query_words (x ∷ y ∷ z ∷ more) = (3 + 2 ^ 32 * x, y + 2 ^ 32 * z)

-- a preimage is given, which nobody gave before
abbrev pub deliver : List ℕ → ℕ → Option (List ℕ)
deliver [] now = Some (now ∷ [])
deliver (x ∷ more) now = None
