-- What two transfers, one after the other, do to known bytes.
use Rattle.std.proofs.Common.{ℕ, ◌+◌, ◌-◌, List, ◌++◌, length, take, drop, Option, Some, None, sym, ap, subst, ◌∙◌, append_assoc}
use Rattle.std.proofs.Math.Seq.{take-add}
use Rattle.std.proofs.lemmas.List.{take_rest}
use Rattle.std.specs.Io.KnownBytes.{Appends}

-- a further n bytes from place m on were written
appends_on : (old mid new : Option (List ℕ)) (bytes : List ℕ) (m n : ℕ) → Appends old mid (take m bytes) → Appends mid new (take n (drop m bytes)) → Appends old new (take (m + n) bytes)
appends_on None mid new bytes m n first second = tt
appends_on (Some x) None new bytes m n first second = absurd first
appends_on (Some x) (Some y) None bytes m n first second = absurd second
appends_on (Some x) (Some y) (Some z) bytes m n first second = second ∙ ap (λ l. l ++ take n (drop m bytes)) first ∙ append_assoc x (take m bytes) (take n (drop m bytes)) ∙ ap (λ l. x ++ l) (sym (take-add m n bytes))

-- of bytes that are written piece by piece
pub appends_piece : (old mid new : Option (List ℕ)) (bytes : List ℕ) (m n : ℕ) → Appends old mid (take m bytes) → Appends mid new (take n (take (length bytes - m) (drop m bytes))) → Appends old new (take (m + n) bytes)
appends_piece old mid new bytes m n first second = appends_on old mid new bytes m n first (subst (λ l. Appends mid new (take n l)) (take_rest bytes m) second)
