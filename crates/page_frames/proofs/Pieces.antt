-- What is read and written piece by piece.
use Rattle.std.proofs.Common.{◌≡◌, ℕ, ◌+◌, ◌-◌, ◌*◌, ◌/◌, ◌%◌, ◌<◌, ◌≤◌, ◌^◌, List, ◌++◌, Option, length, take, drop, replicate, sym, ap, ◌∙◌, arith, length-drop, append_assoc, append-nil}
use Rattle.std.proofs.Math.Seq.{take-add}
use Rattle.std.proofs.lemmas.Nat.{div-add-mod'}
use Rattle.std.proofs.lemmas.List.{length-take-le, length-replicate, replicate-append-replicate, take_at, drop_at, drop-drop, drop_all}
use Rattle.slab.specs.Slab.{Slab}
use borrow.Rule.Slice.PartMut.{put_mid}
use Rattle.page_frames.specs.PageBytes.{byte_of, overwritten, zeroed, AreMarked}
use Rattle.page_frames.specs.FrameTable.{zero_page, bytes_below, page_bytes, IsSound, PageChanged, HaveFrames, AreFramed}
use Rattle.page_frames.specs.WrittenLaws.{written_on, nothing_written}
use Rattle.page_frames.proofs.Bytes.{below_written, part_of_page, marked, frame_size}

pub split_place : (a : ℕ) → a / 4096 * 4096 + a % 4096 ≡ a
split_place a = div-add-mod' a 4096

-- one piece more is written
pub piece_written : (table : List (List (Option ℕ))) (frames new : Slab (List ℕ)) (memory bytes : List ℕ) (place done count : ℕ) → length memory ≡ 2 ^ 32 → place + length bytes ≤ 2 ^ 32 → done + count ≤ length bytes
    → (place + done) % 4096 + count ≤ 4096 → place + done < 2 ^ 32 → IsSound table frames
    → bytes_below (2 ^ 32) table frames ≡ overwritten memory place (take done bytes)
    → PageChanged table frames table new ((place + done) / 4096) (λ old. overwritten old ((place + done) % 4096) (take count (drop done bytes)))
    → bytes_below (2 ^ 32) table new ≡ overwritten memory place (take (done + count) bytes)
piece_written table frames new memory bytes place done count size room within fits low sound before s =
    let piece : length (take count (drop done bytes)) ≡ count = length-take-le count (drop done bytes) (omega (arith, length-drop done bytes)) in
    let front : length (take done bytes) ≡ done = length-take-le done bytes (omega arith) in
    let inside : place + length (take done bytes) ≤ length memory = omega (arith, front, size) in
    below_written (2 ^ 32) table frames table new ((place + done) / 4096) ((place + done) % 4096) (take count (drop done bytes)) (omega (arith, piece)) (omega arith) sound s
    ∙ (λ j. overwritten (before j) (split_place (place + done) j) (take count (drop done bytes)))
    ∙ ap (λ n. overwritten (overwritten memory place (take done bytes)) (place + n) (take count (drop done bytes))) (sym front)
    ∙ written_on memory place (take done bytes) inside (take count (drop done bytes))
    ∙ ap (λ l. overwritten memory place l) (sym (take-add done count bytes))

pub piece_seen : (table : List (List (Option ℕ))) (frames : Slab (List ℕ)) (x place done count k : ℕ) (buf piece : List ℕ) → IsSound table frames → x ≡ place → done + count ≤ length buf → k ≡ count
    → (x + done) % 4096 + count ≤ 4096 → x + done < 2 ^ 32 → piece ≡ take (length (take k (drop done buf))) (drop ((x + done) % 4096) (page_bytes table frames ((x + done) / 4096)))
    → piece ≡ take (length (take k (drop done buf))) (drop (place + done) (bytes_below (2 ^ 32) table frames))
piece_seen table frames x place done count k buf piece sound ex room ek fits low is =
    let n : length (take k (drop done buf)) ≡ count = length-take-le k (drop done buf) (omega (arith, length-drop done buf)) ∙ ek in
    is ∙ part_of_page (2 ^ 32) table frames ((x + done) / 4096) ((x + done) % 4096) (length (take k (drop done buf))) (omega (arith, n)) (omega arith) sound
    ∙ ap (λ a. take (length (take k (drop done buf))) (drop a (bytes_below (2 ^ 32) table frames))) (split_place (x + done) ∙ ap (λ y. y + done) ex)

-- one piece more is read
pub piece_read : (memory : List ℕ) (place done count k : ℕ) (old buf piece : List ℕ) → buf ≡ take done (drop place memory) ++ drop done old → length buf ≡ length old → done + count ≤ length old → k ≡ count
    → place + length old ≤ length memory → piece ≡ take (length (take k (drop done buf))) (drop (place + done) memory) → put_mid done k buf piece ≡ take (done + count) (drop place memory) ++ drop (done + count) old
piece_read memory place done count k old buf piece is same room ek within new =
    let size : length (take done (drop place memory)) ≡ done = length-take-le done (drop place memory) (omega (arith, length-drop place memory)) in
    let taken : length (take k (drop done buf)) ≡ count = length-take-le k (drop done buf) (omega (arith, length-drop done buf)) ∙ ek in
    let front : take done buf ≡ take done (drop place memory) = ap (take done) is ∙ take_at (take done (drop place memory)) (drop done old) done size in
    let middle : piece ≡ take count (drop done (drop place memory)) = new ∙ ap (λ n. take n (drop (place + done) memory)) taken ∙ ap (take count) (sym (drop-drop done place memory)) in
    let rest : drop done buf ≡ drop done old = ap (drop done) is ∙ drop_at (take done (drop place memory)) (drop done old) done size in
    let back : drop k (drop done buf) ≡ drop (done + count) old = (λ j. drop (ek j) (rest j)) ∙ drop-drop count done old in
    (λ j. front j ++ (middle j ++ back j))
    ∙ sym (append_assoc (take done (drop place memory)) (take count (drop done (drop place memory))) (drop (done + count) old))
    ∙ ap (λ l. l ++ drop (done + count) old) (sym (take-add done count (drop place memory)))

all_overwritten : (xs new : List ℕ) → length xs ≡ length new → overwritten xs 0 new ≡ new
all_overwritten xs new e = ap (λ l. new ++ l) (drop_all (0 + length new) xs (omega (arith, e))) ∙ append-nil new

-- one page more is zero
pub page_zeroed : (table new_table : List (List (Option ℕ))) (frames new : Slab (List ℕ)) (memory : List ℕ) (first page : ℕ) → length memory ≡ 2 ^ 32 → first ≤ page → page < 2 ^ 20 → IsSound table frames
    → bytes_below (2 ^ 32) table frames ≡ zeroed memory first (page - first) → PageChanged table frames new_table new page (λ _. zero_page) → bytes_below (2 ^ 32) new_table new ≡ zeroed memory first (page + 1 - first)
unfolding zero_page
page_zeroed table new_table frames new memory first page size low high sound before s =
    let zeros : List ℕ = replicate ((page - first) * 4096) 0 in
    let long : length zeros ≡ (page - first) * 4096 = length-replicate ((page - first) * 4096) 0 in
    let one : length (replicate {A = ℕ} 4096 0) ≡ 4096 = length-replicate {A = ℕ} 4096 0 in
    let start : page * 4096 + 0 ≡ first * 4096 + length zeros = omega (arith, long) in
    let more : (page - first) * 4096 + 4096 ≡ (page + 1 - first) * 4096 = omega arith in
    let whole : PageChanged table frames new_table new page (λ old. overwritten old 0 (replicate 4096 0)) =
    record { sound = s.sound; here = s.here ∙ sym (all_overwritten (page_bytes table frames page) (replicate 4096 0) (frame_size table frames page sound ∙ sym one)); others = s.others } in
    below_written (2 ^ 32) table frames new_table new page 0 (replicate 4096 0) (omega (arith, one)) (omega arith) sound whole
    ∙ (λ j. overwritten (before j) (start j) (replicate 4096 0))
    ∙ written_on memory (first * 4096) zeros (omega (arith, long, size)) (replicate 4096 0)
    ∙ ap (λ l. overwritten memory (first * 4096) l) (replicate-append-replicate ((page - first) * 4096) 4096 0 ∙ ap (λ n. replicate n 0) more)

pub none_zeroed : (memory : List ℕ) (first : ℕ) → memory ≡ zeroed memory first (first - first)
none_zeroed memory first = let e : (first - first) * 4096 ≡ 0 = omega arith in sym (ap (λ n. overwritten memory (first * 4096) (replicate n 0)) e ∙ nothing_written memory (first * 4096))

-- the pages that bytes touch are those from the first to the last
pub framed_range : (table : List (List (Option ℕ))) (place n last : ℕ) → 0 < n → last ≡ (place + (n - 1)) / 4096 → HaveFrames table (place / 4096) (last - place / 4096 + 1) → AreFramed table place n
framed_range table place n last some e h page low high = h page low (omega (arith, e))

pub marked_range : (table : List (List (Option ℕ))) (frames : Slab (List ℕ)) (place n last : ℕ) → 0 < n → place + n ≤ 2 ^ 32 → last ≡ (place + (n - 1)) / 4096
    → AreMarked (byte_of (bytes_below (2 ^ 32) table frames)) place n → HaveFrames table (place / 4096) (last - place / 4096 + 1)
marked_range table frames place n last some room e m page low high = marked table frames (2 ^ 32) page (omega (arith, e)) (m page low (omega (arith, e)))
