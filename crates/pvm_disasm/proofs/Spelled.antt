-- The bytes that an image gives are those that spell a program.
use Rattle.std.proofs.Common.{◌≡◌, ◌<◌, ◌≤◌, ℕ, ◌%◌, ◌^◌, Bool, ◌==◌, List, [], ◌∷◌, ◌++◌, length, Option, Some, None, refl, sym, ap, ◌∙◌, subst, arith}
use Rattle.std.proofs.lemmas.Bool.{ne_eqb, cond-false, leb-true}
use Rattle.std.proofs.lemmas.List.{take_at}
use Rattle.byte_numbers.specs.Numbers.{AreBytes, little_endian}
use Rattle.byte_numbers.specs.NumberLaws.{AreBytes-rest, AreBytes-take}
use Rattle.jam_codec.specs.Spelling.{natural, packed}
use Rattle.jam_codec.specs.Format.{Spells, fixed_where, any, items_fit, items_spelled}
use Rattle.blob_decode.specs.Program.{Program, program_blob}
use Rattle.pvm_asm.specs.Assembly.{entry_bytes, entry_count, raw_bytes}
use Rattle.pvm_disasm.proofs.Moves.{image, AreEntries}

-- a blob's fields, one after another
abbrev pub blob_of : ℕ → List ℕ → List ℕ → List Bool → List ℕ
blob_of width jumps code mask = natural (length jumps) ++ (width ∷ (natural (length code) ++ (entry_bytes width jumps ++ (code ++ packed mask))))

jumps-spelled : (width : ℕ) (last : Option ℕ) (places : List ℕ) → items_spelled (λ last. fixed_where width any) last places ≡ entry_bytes width places
unfolding items_spelled
jumps-spelled width last [] = refl
jumps-spelled width last (place ∷ places) = ap (λ more. little_endian width place ++ more) (jumps-spelled width (Some place) places)

one-byte : (x : ℕ) → x < 256 → little_endian 1 x ≡ x ∷ []
unfolding little_endian
one-byte x h = let same : x % 256 ≡ x = omega arith in ap (λ b. b ∷ []) same

pub spell-is : (p : Program) → p.width < 256 → program_blob.spell p ≡ blob_of p.width p.jumps p.code p.mask
spell-is p h =
    ap (λ w. natural (length p.jumps) ++ (w ++ (natural (length p.code) ++ (items_spelled (λ last. fixed_where p.width any) None p.jumps ++ (p.code ++ packed p.mask))))) (one-byte p.width h)
    ∙ ap (λ t. natural (length p.jumps) ++ (p.width ∷ (natural (length p.code) ++ (t ++ (p.code ++ packed p.mask))))) (jumps-spelled p.width None p.jumps)

no-bytes : (places : List ℕ) → entry_bytes 0 places ≡ []
unfolding little_endian
no-bytes [] = refl
no-bytes (place ∷ places) = no-bytes places

count-is : (entries : List ℕ) (code : List ℕ) (mask : List Bool) → entry_count (image entries 0 code mask) ≡ length entries
count-is [] code mask = refl
count-is (e ∷ es) code mask = cond-false (length (e ∷ es) == 0) 0 (length (e ∷ es)) (ne_eqb (length (e ∷ es)) 0 (λ e. absurd (omega (arith, e))))

pub entries-give : (width : ℕ) (jumps code : List ℕ) (mask : List Bool) → raw_bytes width (image jumps 0 code mask) ≡ blob_of width jumps code mask
entries-give width jumps code mask = ap (λ n. natural n ++ (width ∷ (natural (length code) ++ (entry_bytes width jumps ++ (code ++ packed mask))))) (count-is jumps code mask)

pub blanks-give : (jumps code : List ℕ) (mask : List Bool) → raw_bytes 0 (image [] (length jumps) code mask) ≡ blob_of 0 jumps code mask
blanks-give jumps code mask = ap (λ t. natural (length jumps) ++ (0 ∷ (natural (length code) ++ (t ++ (code ++ packed mask))))) (sym (no-bytes jumps))

entries-fit : (width : ℕ) (last : Option ℕ) (places : List ℕ) → items_fit (λ last. fixed_where width any) (length places) last places → AreEntries width places
unfolding items_fit
entries-fit width last [] h = tt
entries-fit width last (place ∷ places) h = (h.0.0, entries-fit width (Some place) places h.1)

-- what is known of a program that fits, and of its code where its blob has bytes
pub record IsSpelled (p : Program) (bytes : List ℕ) : Type 0 where
  pub narrow : p.width ≤ 8
  pub count : length p.jumps < 2 ^ 64
  pub entries : AreEntries p.width p.jumps
  pub masked : length p.mask ≡ length p.code
  pub code : AreBytes p.code
  pub blob : bytes ≡ blob_of p.width p.jumps p.code p.mask

code-are : (width : ℕ) (jumps code : List ℕ) (mask : List Bool) → AreBytes (blob_of width jumps code mask) → AreBytes code
code-are width jumps code mask are =
    let first : AreBytes (width ∷ (natural (length code) ++ (entry_bytes width jumps ++ (code ++ packed mask)))) = AreBytes-rest (natural (length jumps)) _ are in
    let second : AreBytes (natural (length code) ++ (entry_bytes width jumps ++ (code ++ packed mask))) = AreBytes-rest (width ∷ []) _ first in
    let third : AreBytes (entry_bytes width jumps ++ (code ++ packed mask)) = AreBytes-rest (natural (length code)) _ second in
    let fourth : AreBytes (code ++ packed mask) = AreBytes-rest (entry_bytes width jumps) _ third in
    subst AreBytes (take_at code (packed mask) (length code) refl) (AreBytes-take (length code) (code ++ packed mask) fourth)

pub is-spelled : (p : Program) (bytes : List ℕ) → AreBytes bytes → Spells program_blob p bytes → IsSpelled p bytes
is-spelled p bytes are h =
    let narrow : p.width ≤ 8 = leb-true p.width 8 h.0.1.0.1 in
    let blob : bytes ≡ blob_of p.width p.jumps p.code p.mask = h.1 ∙ spell-is p (omega arith) in
    record {
      narrow = narrow;
      count = h.0.0.0;
      entries = entries-fit p.width None p.jumps h.0.1.1.1.0;
      masked = h.0.1.1.1.1.1.0;
      code = code-are p.width p.jumps p.code p.mask (subst AreBytes blob are);
      blob = blob;
    }
