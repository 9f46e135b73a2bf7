-- Words of bytes in hexadecimal.
use Rattle.std.proofs.Common.{◌≡◌, ◌≢◌, ℕ, List, [], ◌∷◌, refl, sym, ap, ◌∙◌, codes, Ok}
use Rattle.hex.specs.Hex.{decode_of}
use Rattle.jam_cli.specs.Table.{IsHexadecimal}

-- a dash has one digit too few
dash : (bytes : List ℕ) → decode_of (codes "-") ≢ Ok bytes
dash bytes e = cc e

-- a word spells one list of bytes
pub same_bytes : (a b word : List ℕ) → IsHexadecimal a word → IsHexadecimal b word → a ≡ b
same_bytes [] [] word p q = refl
same_bytes [] (b ∷ rest) word p q = absurd (dash (b ∷ rest) (ap decode_of (sym p) ∙ q))
same_bytes (a ∷ later) [] word p q = absurd (dash (a ∷ later) (ap decode_of (sym q) ∙ p))
same_bytes (a ∷ later) (b ∷ rest) word p q =
    let same : Ok (a ∷ later) ≡ Ok (b ∷ rest) = sym p ∙ q in
    cc same
