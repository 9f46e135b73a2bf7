-- Accesses whose bytes lie in one page.
use Rattle.std.proofs.Common.{◌≡◌, ℕ, zero, suc, ◌+◌, ◌*◌, ◌/◌, ◌%◌, ◌^◌, ◌<◌, ◌≤◌, Bool, true, false, cond, List, [], ◌∷◌, refl, ap, ◌∙◌, arith}
use Rattle.std.specs.Prelude.{not, ◌&&◌}
use Rattle.std.proofs.Math.Nat.{mod-eq_of_lt}
use Rattle.std.proofs.lemmas.Nat.{div-mul-add, mod-mul-add, div-add-mod'}
use Rattle.page_rights.specs.declared.rights.Rights.{Rights}
use Rattle.paged_memory.specs.PageMap.{Memory, page_of, rights, reaches, has, addresses, forbidden, all_have}

pub page_at : (p i : ℕ) → i < 4096 → page_of (p * 4096 + i) ≡ p
page_at p i h = div-mul-add p 4096 i h

pub place_at : (p i : ℕ) → i < 4096 → (p * 4096 + i) % 4096 ≡ i
place_at p i h = mod-mul-add p 4096 i h

pub wrapped_at : (p i : ℕ) → p < 2 ^ 20 → i < 4096 → (p * 4096 + i) % 2 ^ 32 ≡ p * 4096 + i
wrapped_at p i h k = mod-eq_of_lt (omega arith)

next : (p i : ℕ) → p * 4096 + i + 1 ≡ p * 4096 + suc i
next p i = omega arith

-- an address by its page and its place there
pub split_address : (a : ℕ) → a / 4096 * 4096 + a % 4096 ≡ a
split_address a = div-add-mod' a 4096

has_here : (m : Memory) (need : Rights) (p i : ℕ) → i < 4096 → has m need (p * 4096 + i) ≡ reaches (rights m p) need
has_here m need p i h = rw (page_at p i h) refl

left_out : (b : Bool) (x : ℕ) (xs : List ℕ) → b ≡ true → cond (not b) (x ∷ xs) xs ≡ xs
left_out true x xs e = refl
left_out false x xs e = absurd (cc)

kept_in : (b : Bool) (x : ℕ) (xs : List ℕ) → b ≡ false → cond (not b) (x ∷ xs) xs ≡ x ∷ xs
kept_in true x xs e = absurd (cc)
kept_in false x xs e = refl

-- nothing is forbidden in a page that has the right
pub allowed_in_page : (n : ℕ) (m : Memory) (need : Rights) (p i : ℕ) → reaches (rights m p) need ≡ true → p < 2 ^ 20 → i + n ≤ 4096 → forbidden m need (p * 4096 + i) n ≡ []
unfolding addresses
allowed_in_page zero m need p i r lt h = refl
allowed_in_page (suc n) m need p i r lt h =
    let here : has m need ((p * 4096 + i) % 2 ^ 32) ≡ true = ap (has m need) (wrapped_at p i lt (omega arith)) ∙ has_here m need p i (omega arith) ∙ r in
    left_out (has m need ((p * 4096 + i) % 2 ^ 32)) ((p * 4096 + i) % 2 ^ 32) (forbidden m need (p * 4096 + i + 1) n) here
    ∙ ap (λ (a : ℕ). forbidden m need a n) (next p i) ∙ allowed_in_page n m need p (suc i) r lt (omega arith)

pub all_in_page : (n : ℕ) (m : Memory) (need : Rights) (p i : ℕ) → reaches (rights m p) need ≡ true → i + n ≤ 4096 → all_have m need (p * 4096 + i) n ≡ true
unfolding all_have
all_in_page zero m need p i r h = refl
all_in_page (suc n) m need p i r h =
    let here : has m need (p * 4096 + i) ≡ true = has_here m need p i (omega arith) ∙ r in
    let rest : all_have m need (p * 4096 + i + 1) n ≡ true = ap (λ (a : ℕ). all_have m need a n) (next p i) ∙ all_in_page n m need p (suc i) r (omega arith) in
    ap (λ (b : Bool). b && all_have m need (p * 4096 + i + 1) n) here ∙ rest
