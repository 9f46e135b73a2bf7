-- Changes of one frame.
use Rattle.std.proofs.Common.{◌≡◌, ◌≢◌, inl, inr, ℕ, ◌+◌, ◌≤◌, List, Option, Some, None, length, refl, sym, ap, ◌∙◌}
use Rattle.std.proofs.lemmas.Bool.{cases_eq}
use Rattle.slab.specs.Slab.{Slab, get}
use Rattle.page_frames.specs.PageBytes.{overwritten}
use Rattle.page_frames.specs.FrameTable.{key_at, bytes_at_key, bytes_or_zero, IsSound, PageChanged, SamePages}
use Rattle.page_frames.specs.WrittenLaws.{overwritten_length}

found : {A : Type 0} (o : Option A) → o ≢ None → (x : A) × (o ≡ Some x)
found None h = absurd (h refl)
found (Some x) h = (x, refl)

same_Some : {A : Type 0} (x y : A) → Some x ≡ Some y → x ≡ y
same_Some x y e = cc

some_none : {A : Type 0} (x : A) → Some x ≡ None → ⊥
some_none x e = absurd (cc)

pub frame_written : (table : List (List (Option ℕ))) (frames new : Slab (List ℕ)) (page key place : ℕ) (bytes : List ℕ) → IsSound table frames → key_at table page ≡ Some key → place + length bytes ≤ 4096
    → ((old : List ℕ) → get frames key ≡ Some old → get new key ≡ Some (overwritten old place bytes)) → ((other : ℕ) → other ≢ key → get new other ≡ get frames other)
    → PageChanged table frames table new page (λ old. overwritten old place bytes)
frame_written table frames new page key place bytes sound e room at others =
    let f : (old : List ℕ) × (get frames key ≡ Some old) = found (get frames key) (sound.live page key e) in
    let after : get new key ≡ Some (overwritten f.0 place bytes) = at f.0 f.1 in
    let size : length f.0 ≡ 4096 = sound.sized key f.0 f.1 in
    record {
      sound =
          record {
            live =
                λ q k h. elim (cases_eq k key) [
                  | inl s ↦ λ n. some_none (overwritten f.0 place bytes) (sym after ∙ ap (get new) (sym s) ∙ n)
                  | inr d ↦ λ n. sound.live q k h (sym (others k d) ∙ n)
                ];
            sized =
                λ k b h. elim (cases_eq k key) [
                  | inl s ↦ ap length (same_Some b (overwritten f.0 place bytes) (sym h ∙ ap (get new) s ∙ after)) ∙ overwritten_length f.0 bytes place 4096 size room
                  | inr d ↦ sound.sized k b (sym (others k d) ∙ h)
                ];
            apart = sound.apart;
          };
      here =
          ap (bytes_at_key new) e ∙ ap bytes_or_zero after
          ∙ sym (ap (λ old. overwritten old place bytes) (ap (bytes_at_key frames) e ∙ ap bytes_or_zero f.1));
      others =
          λ q d. elim (key_at table q) as (λ (o : Option ℕ). key_at table q ≡ o → bytes_at_key new (key_at table q) ≡ bytes_at_key frames (key_at table q)) [
            | None ↦ λ h. ap (bytes_at_key new) h ∙ sym (ap (bytes_at_key frames) h)
            | Some k ↦ λ h.
                ap (bytes_at_key new) h ∙ ap bytes_or_zero (others k (λ s. d (sound.apart q page key (h ∙ ap (λ x. Some x) s) e)))
                ∙ sym (ap (bytes_at_key frames) h)
          ] refl;
    }

-- pages that stay the same twice
pub same_twice : (a b c : List (List (Option ℕ))) (x y z : Slab (List ℕ)) → SamePages a x b y → SamePages b y c z → SamePages a x c z
same_twice a b c x y z s t = record { sound = t.sound; pages = λ q. t.pages q ∙ s.pages q; held = λ q h. t.held q (s.held q h) }
