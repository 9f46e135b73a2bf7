-- The laws of the bytes of standard programs.
use Rattle.std.proofs.Common.{◌≡◌, ℕ, ◌+◌, List, ◌++◌, length, refl, sym, ap, ◌∙◌, subst, Result, Ok, Err}
use Rattle.std.proofs.lemmas.List.{take_at}
use Rattle.jam_codec.specs.Reading.{Reading, Takes}
use Rattle.jam_codec.specs.Format.{Format, Spells, from, any, whole, both, bytes_where}
use Rattle.byte_numbers.specs.Numbers.{AreBytes}
use Rattle.jam_codec.specs.Laws.{IsFormat}
use Rattle.byte_numbers.specs.NumberLaws.{AreBytes-take}
use Rattle.jam_codec.specs.JoinLaws.{chain_ok, ok_parts, field_laws}
use Rattle.jam_codec.specs.FormatLaws.{both_laws, by_laws, fixed_laws, bytes_laws, file_laws}
use Rattle.blob_decode.specs.Program.{program_blob}
use Rattle.blob_decode.specs.BlobLaws.{program_blob_laws}
use Rattle.program_init.specs.Standard.{alone, enclosed_at, enclosed, Head, head, code_size, with_code, head_of, standard_of, outer, standard_program}

-- ---- A value that stands alone

-- what was read of bytes that stand alone
alone_ok : {A : Type 0} → (place : ℕ) (left : Reading) (r : Result A ℕ) (x : A) (s : Reading) → alone place left r ≡ Ok (x, s) → (r ≡ Ok x) × (left ≡ s)
alone_ok place left (Ok y) x s e =
    let parts : (y ≡ x) × (left ≡ s) = ok_parts y x left s e in
    (ap Ok parts.0, parts.1)
alone_ok place left (Err inner) x s e = absurd (cc e)

AreBytes-front : (front rest : List ℕ) → AreBytes (front ++ rest) → AreBytes front
AreBytes-front front rest b = subst AreBytes (take_at front rest (length front) refl) (AreBytes-take (length front) (front ++ rest) b)

module _ {A : Type 0} (f : Format A) (F : IsFormat f) (n : ℕ) where
  enclosed_again : (place : ℕ) (x : A) (rest : List ℕ) → f.Fits x × (length (f.spell x) ≡ n) → enclosed_at f n (from place (f.spell x ++ rest)) ≡ Ok (x, from (place + length (f.spell x)) rest)
  enclosed_again place x rest h =
      let front : (bytes_where n any).read (from place (f.spell x ++ rest)) ≡ Ok (f.spell x, from (place + length (f.spell x)) rest) =
      (bytes_laws n any).code.again place (f.spell x) rest (h.1, refl) in
      let inner : whole f (f.spell x) ≡ Ok x = (file_laws f F).again x h.0 in
      rw (front, inner) refl

  enclosed_found : (r : Reading) (x : A) (s : Reading) → AreBytes r.rest → enclosed_at f n r ≡ Ok (x, s) → (f.Fits x × (length (f.spell x) ≡ n)) × Takes r (f.spell x) s
  enclosed_found r x s b e =
      let c = chain_ok ((bytes_where n any).read r) (λ found. alone r.place found.1 (whole f found.0)) (x, s) e in
      let took : (bytes_where n any).Fits c.0.0 × Takes r c.0.0 c.0.1 = (bytes_laws n any).code.found r c.0.0 c.0.1 b c.1 in
      let inner : (whole f c.0.0 ≡ Ok x) × (c.0.1 ≡ s) = alone_ok r.place c.0.1 (whole f c.0.0) x s c.2 in
      let bytes : AreBytes c.0.0 = AreBytes-front c.0.0 c.0.1.rest (subst AreBytes took.1.rest b) in
      let spelled : Spells f x c.0.0 = (file_laws f F).found c.0.0 x bytes inner.0 in (
        (spelled.0, ap length (sym spelled.1) ∙ took.0.0),
        subst (λ (t : Reading). Takes r (f.spell x) t) inner.1 (subst (λ (bytes : List ℕ). Takes r bytes c.0.1) spelled.1 took.1),
      )

  pub enclosed_laws : IsFormat (enclosed f n)
  enclosed_laws = field_laws (λ x. f.Fits x × (length (f.spell x) ≡ n)) f.spell (enclosed_at f n) (record { again = enclosed_again; found = enclosed_found }) any

-- ---- Standard programs

pub head_laws : IsFormat head
head_laws =
    both_laws _ _ (fixed_laws 3 any) (λ read_only.
    both_laws _ _ (fixed_laws 3 any) (λ writable.
    both_laws _ _ (fixed_laws 2 any) (λ heap_pages.
    both_laws _ _ (fixed_laws 3 any) (λ stack.
    both_laws _ _ (bytes_laws read_only any) (λ bytes.
    both_laws _ _ (bytes_laws writable any) (λ more. fixed_laws 4 any))))))

module _ {Code : Type 0} (size : Code → ℕ) (code : ℕ → Format Code) (laws : (n : ℕ) → IsFormat (code n)) (sized : (n : ℕ) (c : Code) → (code n).Fits c → size c ≡ n) where
  -- a head tells how long the bytes and the code are that follow
  same_head : (p : Head × Code) → (both head (λ h. code (code_size h))).Fits p → (head_of size (with_code p.0 p.1), p.1) ≡ p
  same_head p h =
      let read_only : length p.0.1.1.1.1.0 ≡ p.0.0 = h.0.1.1.1.1.0.0 in
      let writable : length p.0.1.1.1.1.1.0 ≡ p.0.1.0 = h.0.1.1.1.1.1.0.0 in
      let coded : size p.1 ≡ code_size p.0 = sized (code_size p.0) p.1 h.1 in
      rw (read_only, writable, coded) refl

  pub standard_of_laws : IsFormat (standard_of size code)
  standard_of_laws =
      by_laws (λ p. with_code p.0 p.1) (λ s. (head_of size s, s.code)) (both head (λ h. code (code_size h)))
      (both_laws _ _ head_laws (λ h. laws (code_size h))) same_head (λ s h. refl)

pub outer_laws : IsFormat outer
outer_laws = standard_of_laws length (λ n. bytes_where n any) (λ n. bytes_laws n any) (λ n c h. h.0)

pub standard_laws : IsFormat standard_program
standard_laws = standard_of_laws (λ program. length (program_blob.spell program)) (enclosed program_blob) (λ n. enclosed_laws program_blob program_blob_laws n) (λ n c h. h.0.1)
