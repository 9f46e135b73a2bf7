-- What the refusal of a file says.
use Rattle.std.specs.Prelude.{ℕ, Result, Option, Some, None, IfErr, IfSome}
use Rattle.jam_codec.specs.declared.refusal.FileRefusal.{FileRefusal}
use Rattle.jam_codec.specs.declared.refusal.FileRefusal.TheVariants.{Malformed, NoMemory}

-- the place that it names
abbrev pub place_of : FileRefusal → Option ℕ
place_of (Malformed place) = Some place
place_of NoMemory = None

-- what holds of the place at which bytes were refused. Want of memory may come anywhere, and says nothing
abbrev pub IfMalformed : {A : Type 0} → Result A FileRefusal → (ℕ → Type 0) → Type 0
IfMalformed result P = IfErr result (λ e. IfSome (place_of e) P)
