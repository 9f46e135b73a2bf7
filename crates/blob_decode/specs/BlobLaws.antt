-- The laws of a program blob.
use Rattle.std.proofs.Common.{◌≡◌, ℕ, List, Bool, length, None, refl}
use Rattle.std.specs.Prelude.{nat_le}
use Rattle.jam_codec.specs.Format.{fixed_where, any}
use Rattle.jam_codec.specs.Laws.{IsFormat}
use Rattle.jam_codec.specs.FormatLaws.{both_laws, by_laws, length-items, natural_laws, fixed_laws, bytes_laws, bits_laws, numbers_laws}
use Rattle.blob_decode.specs.Program.{fields, program_blob}

abbrev Fields : Type 0
Fields = ℕ × (ℕ × (ℕ × (List ℕ × (List ℕ × List Bool))))

fields_laws : IsFormat fields
fields_laws =
    both_laws _ _ (natural_laws any) (λ jumps.
    both_laws _ _ (fixed_laws 1 (λ width. nat_le width 8)) (λ width.
    both_laws _ _ (natural_laws any) (λ size.
    both_laws _ _ (numbers_laws width jumps) (λ targets.
    both_laws _ _ (bytes_laws size any) (λ code. bits_laws size any)))))

-- the lists are as long as the fields before them say
same_fields : (f : Fields) → fields.Fits f → (length f.1.1.1.0, (f.1.0, (length f.1.1.1.1.0, (f.1.1.1.0, (f.1.1.1.1.0, f.1.1.1.1.1))))) ≡ f
same_fields f h =
    let jumps : length f.1.1.1.0 ≡ f.0 = length-items (λ last. fixed_where f.1.0 any) f.0 None f.1.1.1.0 h.1.1.1.0 in
    let size : length f.1.1.1.1.0 ≡ f.1.1.0 = h.1.1.1.1.0.0 in
    rw (jumps, size) refl

pub program_blob_laws : IsFormat program_blob
program_blob_laws =
    by_laws (λ f. record { width = f.1.0; jumps = f.1.1.1.0; code = f.1.1.1.1.0; mask = f.1.1.1.1.1 })
    (λ p. (length p.jumps, (p.width, (length p.code, (p.jumps, (p.code, p.mask))))))
    fields fields_laws same_fields (λ p h. refl)
