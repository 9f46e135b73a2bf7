-- The kept bytes, one after another, spell the program.
use Rattle.std.proofs.Common.{◌≡◌, ℕ, ◌*◌, ◌<◌, ◌^◌, List, ◌++◌, length, None, Ok, refl, sym, ap, ◌∙◌, subst, arith, append-nil, append_assoc, []}
use Rattle.std.proofs.lemmas.Bool.{le-leb}
use Rattle.std.proofs.Math.ListN.{drop_of_length-le}
use Rattle.jam_codec.specs.Spelling.{natural, binary_digits, packed}
use Rattle.byte_numbers.specs.Numbers.{little_endian, little_number, numbers, AreBytes}
use Rattle.jam_codec.specs.Reading.{Takes, past}
use Rattle.jam_codec.specs.Format.{Spells, fixed_where, numbers_of, any, from, items_fit}
use Rattle.jam_codec.specs.BitLaws.{length-binary_digits, packed-found}
use Rattle.jam_codec.specs.FormatLaws.{numbers_laws, items_at-numbers}
use Rattle.byte_numbers.specs.NumberLaws.{length-numbers}
use Rattle.blob_decode.specs.Program.{program_blob}
use Rattle.blob_decode.specs.Kept.{program_of, AreParts}

pub Spells-kept : (count width : ℕ) (table code mask : List ℕ) → AreParts count width table code mask → AreBytes table → length code < 2 ^ 64 → Spells program_blob (program_of count width table code mask) (natural count ++ (little_endian 1 width ++ (natural (length code) ++ (table ++ (code ++ mask)))))
Spells-kept count width table code mask keeps bytes small =
    let many : length (numbers width count table) ≡ count = length-numbers width count table in
    let read : (numbers_of width count).read (from 0 table) ≡ Ok (numbers width count table, past (count * width) (from 0 table)) =
    items_at-numbers width count None (from 0 table) (omega (arith, keeps.jumps)) in
    let found : (numbers_of width count).Fits (numbers width count table) × Takes (from 0 table) ((numbers_of width count).spell (numbers width count table)) (past (count * width) (from 0 table)) =
    (numbers_laws width count).code.found (from 0 table) (numbers width count table) (past (count * width) (from 0 table)) bytes read in
    let spelled : (numbers_of width count).spell (numbers width count table) ≡ table =
    sym (found.1.rest
    ∙ ap (λ (rest : List ℕ). (numbers_of width count).spell (numbers width count table) ++ rest) (drop_of_length-le table (omega (arith, keeps.jumps)))
    ∙ append-nil ((numbers_of width count).spell (numbers width count table))) in
    let packs : mask ≡ packed (binary_digits (length code) (little_number mask)) = packed-found mask (length code) keeps.bytes keeps.bits keeps.spare in
    let fits : items_fit (λ last. fixed_where width any) (length (numbers width count table)) None (numbers width count table) =
    subst (λ (k : ℕ). items_fit (λ last. fixed_where width any) k None (numbers width count table)) (sym many) found.0 in (
      ((omega (arith, many, keeps.counted), refl), ((omega (arith, keeps.narrow), le-leb width 8 keeps.narrow), ((small, refl), (fits, ((refl, refl), (length-binary_digits (length code) (little_number mask), refl)))))),
      rw (many, spelled) (ap (λ (m : List ℕ). natural count ++ (little_endian 1 width ++ (natural (length code) ++ (table ++ (code ++ m))))) packs),
    )

-- bytes that were added one after another
pub added : (e0 e1 e2 e3 e4 a b c d : List ℕ) → e0 ≡ [] → e1 ≡ e0 ++ a → e2 ≡ e1 ++ b → e3 ≡ e2 ++ c → e4 ≡ e3 ++ d → e4 ≡ a ++ (b ++ (c ++ d))
added e0 e1 e2 e3 e4 a b c d p0 p1 p2 p3 p4 =
    let first : e1 ≡ a = p1 ∙ ap (λ (e : List ℕ). e ++ a) p0 in
    let third : e3 ≡ (a ++ b) ++ c = p3 ∙ ap (λ (e : List ℕ). e ++ c) (p2 ∙ ap (λ (e : List ℕ). e ++ b) first) in
    p4 ∙ ap (λ (e : List ℕ). e ++ d) third ∙ simp append_assoc refl
