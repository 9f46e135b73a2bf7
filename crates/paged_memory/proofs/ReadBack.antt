-- What is put is read.
use Rattle.std.proofs.Common.{◌≡◌, ◌≢◌, inl, inr, ℕ, zero, suc, ◌+◌, ◌*◌, ◌%◌, ◌^◌, ◌<◌, ◌≤◌, Bool, true, false, cond, List, [], ◌∷◌, map, length, Some, None, Ok, Option, option_map, refl, sym, ap, ◌∙◌, arith}
use Rattle.std.specs.Prelude.{not, slice_set}
use Rattle.std.specs.List.{All}
use Rattle.std.specs.FinMap as fin
use Rattle.std.proofs.lemmas.Nat.{div-add-mod'}
use Rattle.std.proofs.lemmas.List.{get_or-set_same, get_or-set_other, length-set}
use Rattle.std.proofs.lemmas.List.Elements.{All-set, All-head, All-tail}
use Rattle.std.proofs.lemmas.Bool.{cases_eq}
use Rattle.page_rights.specs.declared.rights.Rights.{Rights}
use Rattle.page_rights.specs.declared.rights.Rights.TheVariants as may
use Rattle.byte_numbers.specs.Numbers.{little_endian, little_number}
use Rattle.paged_memory.specs.PageMap.{Page, Memory, IsPage, HasWholePages, page_of, rights_in, rights, byte_in, byte, reaches, has, addresses, forbidden, refusal, least, access_at, unless, loaded, put_in, put_byte, put_bytes}
use Rattle.paged_memory.proofs.Maps.{inserted_there, inserted_other}
use Rattle.byte_numbers.specs.NumberLaws.{length-little_endian, little_number-little_endian, pow_256}
use Rattle.paged_memory.proofs.Whole.{whole_inserted, small_bytes}
use Rattle.paged_memory.proofs.RefusalLaws.{allowed_law}

rights_in_page : (m : Memory) (a b : ℕ) (o : Option Page) → fin.get m (page_of a) ≡ o → (q : ℕ) → rights (put_in m a o b) q ≡ rights m q
rights_in_page m a b None e q = refl
rights_in_page m a b (Some page) e q =
    let after : Page = record page { bytes = slice_set page.bytes (a % 4096) b } in
    elim (cases_eq q (page_of a)) [
      | inl s ↦
          ap (λ (x : ℕ). rights_in (fin.get (fin.insert m (page_of a) after) x)) s ∙ ap rights_in (inserted_there m (page_of a) after)
          ∙ sym (ap (λ (x : ℕ). rights_in (fin.get m x)) s ∙ ap rights_in e)
      | inr n ↦ ap rights_in (inserted_other m (page_of a) after q n)
    ]

pub rights_put : (m : Memory) (a b q : ℕ) → rights (put_byte m a b) q ≡ rights m q
rights_put m a b q = rights_in_page m a b (fin.get m (page_of a)) refl q

pub rights_law : (bs : List ℕ) (m : Memory) (from q : ℕ) → rights (put_bytes m from bs) q ≡ rights m q
unfolding put_bytes
rights_law [] m from q = refl
rights_law (b ∷ bs) m from q = rights_law bs (put_byte m (from % 2 ^ 32) b) (from + 1) q ∙ rights_put m (from % 2 ^ 32) b q

there_in : (m : Memory) (a b : ℕ) (o : Option Page) → fin.get m (page_of a) ≡ o → HasWholePages m → reaches (rights_in o) may.Read ≡ true → byte (put_in m a o b) a ≡ b
there_in m a b None e whole r = absurd (cc)
there_in m a b (Some page) e whole r =
    let after : Page = record page { bytes = slice_set page.bytes (a % 4096) b } in
    let size : length page.bytes ≡ 4096 = (whole (page_of a) page e).size in
    ap (λ o. byte_in o (a % 4096)) (inserted_there m (page_of a) after) ∙ get_or-set_same page.bytes (a % 4096) b 0 (omega arith)

pub there_law : (m : Memory) (a b : ℕ) → HasWholePages m → has m may.Read a ≡ true → byte (put_byte m a b) a ≡ b
there_law m a b whole r = there_in m a b (fin.get m (page_of a)) refl whole r

other_in : (m : Memory) (a b x : ℕ) (o : Option Page) → fin.get m (page_of a) ≡ o → x ≢ a → byte (put_in m a o b) x ≡ byte m x
other_in m a b x None e apart = refl
other_in m a b x (Some page) e apart =
    let after : Page = record page { bytes = slice_set page.bytes (a % 4096) b } in
    elim (cases_eq (page_of x) (page_of a)) [
      | inl s ↦
          let places : x % 4096 ≢ a % 4096 = λ p. apart (sym (div-add-mod' x 4096) ∙ (λ j. s j * 4096 + p j) ∙ div-add-mod' a 4096) in
          ap (λ (q : ℕ). byte_in (fin.get (fin.insert m (page_of a) after) q) (x % 4096)) s
          ∙ ap (λ o. byte_in o (x % 4096)) (inserted_there m (page_of a) after)
          ∙ get_or-set_other page.bytes (a % 4096) (x % 4096) b 0 places
          ∙ sym (ap (λ (q : ℕ). byte_in (fin.get m q) (x % 4096)) s ∙ ap (λ o. byte_in o (x % 4096)) e)
      | inr n ↦ ap (λ o. byte_in o (x % 4096)) (inserted_other m (page_of a) after (page_of x) n)
    ]

pub other_law : (m : Memory) (a b x : ℕ) → x ≢ a → byte (put_byte m a b) x ≡ byte m x
other_law m a b x apart = other_in m a b x (fin.get m (page_of a)) refl apart

-- ---- Many bytes

pub untouched : (bs : List ℕ) (m : Memory) (from a : ℕ) → ((k : ℕ) → k < length bs → a ≢ (from + k) % 2 ^ 32) → byte (put_bytes m from bs) a ≡ byte m a
unfolding put_bytes
untouched [] m from a apart = refl
untouched (b ∷ bs) m from a apart =
    let here : a ≢ from % 2 ^ 32 = λ e. apart 0 (omega arith) (e ∙ ap (λ (x : ℕ). x % 2 ^ 32) (omega arith)) in
    untouched bs (put_byte m (from % 2 ^ 32) b) (from + 1) a (λ k h e. apart (suc k) (omega arith) (e ∙ ap (λ (x : ℕ). x % 2 ^ 32) (omega arith)))
    ∙ other_law m (from % 2 ^ 32) b a here

ahead : (from k : ℕ) → suc k < 2 ^ 32 → from % 2 ^ 32 ≢ (from + 1 + k) % 2 ^ 32
ahead from k h e = absurd (omega arith)

first_free : (b : Bool) (x : ℕ) (xs : List ℕ) → cond (not b) (x ∷ xs) xs ≡ [] → (b ≡ true) × (xs ≡ [])
first_free true x xs e = (refl, e)
first_free false x xs e = absurd (cc)

forbidden_same : (n : ℕ) (m k : Memory) (need : Rights) (from : ℕ) → ((q : ℕ) → rights m q ≡ rights k q) → forbidden m need from n ≡ forbidden k need from n
unfolding addresses
forbidden_same zero m k need from h = refl
forbidden_same (suc n) m k need from h =
    let rest : forbidden m need (from + 1) n ≡ forbidden k need (from + 1) n = forbidden_same n m k need (from + 1) h in
    λ j. cond (not (reaches (h (page_of (from % 2 ^ 32)) j) need)) (from % 2 ^ 32 ∷ rest j) (rest j)

write_reads : (r : Rights) → reaches r may.Write ≡ true → reaches r may.Read ≡ true
write_reads may.No h = absurd (cc)
write_reads may.Read h = refl
write_reads may.Write h = refl

nothing_first : (b : Bool) (x : ℕ) (xs : List ℕ) → b ≡ true → xs ≡ [] → cond (not b) (x ∷ xs) xs ≡ []
nothing_first true x xs h e = e
nothing_first false x xs h e = absurd (cc)

readable_too : (n : ℕ) (m : Memory) (from : ℕ) → forbidden m may.Write from n ≡ [] → forbidden m may.Read from n ≡ []
unfolding addresses
readable_too zero m from h = refl
readable_too (suc n) m from h =
    let free : (has m may.Write (from % 2 ^ 32) ≡ true) × (forbidden m may.Write (from + 1) n ≡ []) = first_free (has m may.Write (from % 2 ^ 32)) (from % 2 ^ 32) (forbidden m may.Write (from + 1) n) h in
    nothing_first (has m may.Read (from % 2 ^ 32)) (from % 2 ^ 32) (forbidden m may.Read (from + 1) n) (write_reads (rights m (page_of (from % 2 ^ 32))) free.0) (readable_too n m (from + 1) free.1)

pub whole_in : (m : Memory) (a b : ℕ) (o : Option Page) → fin.get m (page_of a) ≡ o → HasWholePages m → b < 256 → HasWholePages (put_in m a o b)
whole_in m a b None e whole small = whole
whole_in m a b (Some page) e whole small =
    let is : IsPage (page_of a) page = whole (page_of a) page e in
    let bytes : All (λ (x : ℕ). x < 256) page.bytes = is.small in
    whole_inserted m (page_of a) (record page { bytes = slice_set page.bytes (a % 4096) b }) whole
    (record { low = is.low; high = is.high; size = length-set page.bytes (a % 4096) b ∙ is.size; small = All-set (λ (x : ℕ). x < 256) page.bytes (a % 4096) b small bytes })

read_back : (bs : List ℕ) (m : Memory) (from : ℕ) → length bs ≤ 2 ^ 32 → HasWholePages m → forbidden m may.Write from (length bs) ≡ [] → All (λ (x : ℕ). x < 256) bs
    → map (byte (put_bytes m from bs)) (addresses from (length bs)) ≡ bs
unfolding addresses put_bytes
read_back [] m from short whole free small = refl
read_back (b ∷ bs) m from short whole free small =
    let a : ℕ = from % 2 ^ 32 in
    let after : Memory = put_byte m a b in
    let open_here : (has m may.Write a ≡ true) × (forbidden m may.Write (from + 1) (length bs) ≡ []) = first_free (has m may.Write a) a (forbidden m may.Write (from + 1) (length bs)) free in
    let here : byte (put_bytes after (from + 1) bs) a ≡ b =
    untouched bs after (from + 1) a (λ k h. ahead from k (omega arith)) ∙ there_law m a b whole (write_reads (rights m (page_of a)) open_here.0) in
    let whole' : HasWholePages after = whole_in m a b (fin.get m (page_of a)) refl whole (All-head (λ (x : ℕ). x < 256) b bs small) in
    let free' : forbidden after may.Write (from + 1) (length bs) ≡ [] = forbidden_same (length bs) after m may.Write (from + 1) (rights_put m a b) ∙ open_here.1 in
    let rest : map (byte (put_bytes after (from + 1) bs)) (addresses (from + 1) (length bs)) ≡ bs = read_back bs after (from + 1) (omega arith) whole' free' (All-tail (λ (x : ℕ). x < 256) b bs small) in
    λ j. here j ∷ rest j

number_back : (n v : ℕ) → v < 256 ^ n → little_number (little_endian n v) ≡ v
number_back n v h = little_number-little_endian n v (omega (arith, pow_256 n, h))

pub read_back_law : (m : Memory) (from n value : ℕ) → HasWholePages m → n ≤ 2 ^ 32 → value < 256 ^ n → refusal m may.Write from n ≡ None → loaded (put_bytes m from (little_endian n value)) from n ≡ Ok value
read_back_law m from n value whole short fits free =
    let size : length (little_endian n value) ≡ n = length-little_endian n value in
    let none : forbidden m may.Write from n ≡ [] = (allowed_law (forbidden m may.Write from n)).0 free in
    let after : Memory = put_bytes m from (little_endian n value) in
    let open_after : forbidden after may.Read from n ≡ [] = forbidden_same n after m may.Read from (rights_law (little_endian n value) m from) ∙ readable_too n m from none in
    let bytes : map (byte after) (addresses from n) ≡ little_endian n value =
    ap (λ (k : ℕ). map (byte after) (addresses from k)) (sym size)
    ∙ read_back (little_endian n value) m from (omega arith) whole (ap (forbidden m may.Write from) size ∙ none) (small_bytes n value) in
    (λ j. unless (option_map access_at (least (open_after j))) (little_number (bytes j))) ∙ ap (λ (x : ℕ). Ok x) (number_back n value fits)
