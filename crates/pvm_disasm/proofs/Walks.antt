-- The bytes before the first unit, and the units, by places of the code.
use Rattle.std.proofs.Common.{◌≡◌, ◌<◌, ◌≤◌, ℕ, zero, suc, ◌+◌, ◌-◌, Bool, true, false, List, [], ◌∷◌, ◌++◌, length, get_or, take, drop, replicate, refl, sym, ap, ◌∙◌, arith, append_assoc, append-nil, length-drop}
use Rattle.std.specs.List.{concat}
use Rattle.std.proofs.lemmas.List.{drop_more, take_more, get_or-drop, drop_all, length-take-le}
use Rattle.byte_numbers.specs.Numbers.{AreBytes}
use Rattle.byte_numbers.specs.NumberLaws.{AreBytes-tail}
use Rattle.pvm_disasm.specs.Listing.{lead, code_units, unit_lines, lines_text}
use Rattle.pvm_disasm.specs.Units.{unit_line}
use Rattle.pvm_disasm.proofs.Moves.{unit_marks}

-- ---- The code is its lead and its units

pub code-is : (mask : List Bool) (code : List ℕ) → length mask ≡ length code → code ≡ lead mask code ++ concat (code_units mask code)
unfolding lead code_units
code-is [] [] h = refl
code-is [] (c ∷ code) h = absurd (omega (arith, h))
code-is (m ∷ mask) [] h = absurd (omega (arith, h))
code-is (true ∷ mask) (c ∷ code) h = let same : length mask ≡ length code = omega (arith, h) in ap (λ cs. c ∷ cs) (code-is mask code same)
code-is (false ∷ mask) (c ∷ code) h = let same : length mask ≡ length code = omega (arith, h) in ap (λ cs. c ∷ cs) (code-is mask code same)

pub mask-is : (mask : List Bool) (code : List ℕ) → length mask ≡ length code → mask ≡ replicate (length (lead mask code)) false ++ unit_marks (code_units mask code)
unfolding lead code_units
mask-is [] [] h = refl
mask-is [] (c ∷ code) h = absurd (omega (arith, h))
mask-is (m ∷ mask) [] h = absurd (omega (arith, h))
mask-is (true ∷ mask) (c ∷ code) h = let same : length mask ≡ length code = omega (arith, h) in ap (λ ms. true ∷ ms) (mask-is mask code same)
mask-is (false ∷ mask) (c ∷ code) h = let same : length mask ≡ length code = omega (arith, h) in ap (λ ms. false ∷ ms) (mask-is mask code same)

-- each unit has at least one byte, and bytes alone
abbrev pub AreUnits : List (List ℕ) → Type 0
AreUnits [] = Unit {0}
AreUnits (unit ∷ code_units) = (0 < length unit) × AreBytes unit × AreUnits code_units

cons-are : (b : ℕ) (bytes : List ℕ) → b < 256 → AreBytes bytes → AreBytes (b ∷ bytes)
cons-are b bytes h are zero = h
cons-are b bytes h are (suc k) = are k

pub lead-are : (mask : List Bool) (code : List ℕ) → AreBytes code → AreBytes (lead mask code)
unfolding lead
lead-are [] code are k = omega arith
lead-are (m ∷ mask) [] are k = omega arith
lead-are (true ∷ mask) (c ∷ code) are k = omega arith
lead-are (false ∷ mask) (c ∷ code) are k = cons-are c (lead mask code) (are 0) (lead-are mask code (AreBytes-tail c code are)) k

pub units-are : (mask : List Bool) (code : List ℕ) → AreBytes code → AreUnits (code_units mask code)
unfolding lead code_units
units-are [] code are = tt
units-are (m ∷ mask) [] are = tt
units-are (true ∷ mask) (c ∷ code) are = (omega arith, cons-are c (lead mask code) (are 0) (lead-are mask code (AreBytes-tail c code are)), units-are mask code (AreBytes-tail c code are))
units-are (false ∷ mask) (c ∷ code) are = units-are mask code (AreBytes-tail c code are)

-- ---- By places

-- at a place where no unit begins
record IsInner (mask : List Bool) (code : List ℕ) (i : ℕ) : Type 0 where
  lead_more : lead (drop i mask) (drop i code) ≡ get_or code i 0 ∷ lead (drop (i + 1) mask) (drop (i + 1) code)
  units_more : code_units (drop i mask) (drop i code) ≡ code_units (drop (i + 1) mask) (drop (i + 1) code)

marked : (mask : List Bool) (i : ℕ) (b : Bool) → i < length mask → get_or mask i true ≡ b → drop i mask ≡ b ∷ drop (i + 1) mask
marked mask i b h e = drop_more mask i true h ∙ ap (λ m. m ∷ drop (i + 1) mask) e

inner : (mask : List Bool) (code : List ℕ) (i : ℕ) → i < length code → length mask ≡ length code → get_or mask i true ≡ false → IsInner mask code i
unfolding lead code_units
inner mask code i h same none =
    let m : drop i mask ≡ false ∷ drop (i + 1) mask = marked mask i false (omega arith) none in
    let c : drop i code ≡ get_or code i 0 ∷ drop (i + 1) code = drop_more code i 0 h in
    record {
      lead_more = ap (λ ms. lead ms (drop i code)) m ∙ ap (lead (false ∷ drop (i + 1) mask)) c;
      units_more = ap (λ ms. code_units ms (drop i code)) m ∙ ap (code_units (false ∷ drop (i + 1) mask)) c;
    }

lead-begins : (mask : List Bool) (code : List ℕ) (i : ℕ) → i < length code → length mask ≡ length code → get_or mask i true ≡ true → lead (drop i mask) (drop i code) ≡ []
unfolding lead
lead-begins mask code i h same begins =
    let m : drop i mask ≡ true ∷ drop (i + 1) mask = marked mask i true (omega arith) begins in
    let c : drop i code ≡ get_or code i 0 ∷ drop (i + 1) code = drop_more code i 0 h in
    ap (λ ms. lead ms (drop i code)) m ∙ ap (lead (true ∷ drop (i + 1) mask)) c

lead-none : (mask : List Bool) → lead mask [] ≡ []
unfolding lead
lead-none [] = refl
lead-none (m ∷ mask) = refl

pub lead-past : (mask : List Bool) (code : List ℕ) (i : ℕ) → length code ≤ i → lead (drop i mask) (drop i code) ≡ []
lead-past mask code i h = ap (lead (drop i mask)) (drop_all i code h) ∙ lead-none (drop i mask)

-- the lead from a place on goes as far as another
pub record Reaches (mask : List Bool) (code : List ℕ) (from place : ℕ) : Type 0 where
  pub from_place : from ≤ place
  pub end : place ≤ length code
  pub lead_is : lead (drop from mask) (drop from code) ≡ take (place - from) (drop from code) ++ lead (drop place mask) (drop place code)
  pub units_are : code_units (drop from mask) (drop from code) ≡ code_units (drop place mask) (drop place code)

pub reaches-start : (mask : List Bool) (code : List ℕ) (from : ℕ) → from ≤ length code → Reaches mask code from from
reaches-start mask code from h =
    let none : from - from ≡ 0 = omega arith in
    record {
      from_place = omega arith;
      end = h;
      lead_is = ap (λ n. take n (drop from code) ++ lead (drop from mask) (drop from code)) (sym none);
      units_are = refl;
    }

pub reaches-next : (mask : List Bool) (code : List ℕ) (from place : ℕ) → length mask ≡ length code → place < length code → get_or mask place true ≡ false → Reaches mask code from place → Reaches mask code from (place + 1)
reaches-next mask code from place same h none r =
    let here : IsInner mask code place = inner mask code place h same none in
    let k : ℕ = place - from in
    let within : k < length (drop from code) = omega (arith, length-drop from code, r.from_place) in
    let sum : from + k ≡ place = omega (arith, r.from_place) in
    let next : place + 1 - from ≡ k + 1 = omega (arith, r.from_place) in
    let byte : get_or (drop from code) k 0 ≡ get_or code place 0 = get_or-drop from code k 0 ∙ ap (λ i. get_or code i 0) sum in
    let rest : List ℕ = lead (drop (place + 1) mask) (drop (place + 1) code) in
    record {
      from_place = omega (arith, r.from_place);
      end = omega arith;
      lead_is = r.lead_is
          ∙ ap (λ t. take k (drop from code) ++ t) (here.lead_more ∙ ap (λ b. b ∷ rest) (sym byte))
          ∙ sym (append_assoc (take k (drop from code)) (get_or (drop from code) k 0 ∷ []) rest)
          ∙ ap (λ t. t ++ rest) (sym (take_more (drop from code) k 0 within))
          ∙ ap (λ n. take n (drop from code) ++ rest) (sym next);
      units_are = r.units_are ∙ here.units_more;
    }

ended : (mask : List Bool) (code : List ℕ) (from place : ℕ) → lead (drop place mask) (drop place code) ≡ [] → Reaches mask code from place → lead (drop from mask) (drop from code) ≡ take (place - from) (drop from code)
ended mask code from place none r = r.lead_is ∙ ap (λ t. take (place - from) (drop from code) ++ t) none ∙ append-nil (take (place - from) (drop from code))

pub ended-begins : (mask : List Bool) (code : List ℕ) (from place : ℕ) → length mask ≡ length code → place < length code → get_or mask place true ≡ true → Reaches mask code from place
    → lead (drop from mask) (drop from code) ≡ take (place - from) (drop from code)
ended-begins mask code from place same h begins r = ended mask code from place (lead-begins mask code place h same begins) r

pub ended-past : (mask : List Bool) (code : List ℕ) (from place : ℕ) → length code ≤ place → Reaches mask code from place → lead (drop from mask) (drop from code) ≡ take (place - from) (drop from code)
ended-past mask code from place h r = ended mask code from place (lead-past mask code place h) r

-- the unit at a place goes up to the next
pub unit-is : (mask : List Bool) (code : List ℕ) (place end : ℕ) → length mask ≡ length code → place < length code → get_or mask place true ≡ true → place + 1 ≤ end
    → lead (drop (place + 1) mask) (drop (place + 1) code) ≡ take (end - (place + 1)) (drop (place + 1) code)
    → code_units (drop (place + 1) mask) (drop (place + 1) code) ≡ code_units (drop end mask) (drop end code)
    → code_units (drop place mask) (drop place code) ≡ take (end - place) (drop place code) ∷ code_units (drop end mask) (drop end code)
unfolding lead code_units
unit-is mask code place end same h begins after lead_is units_are =
    let m : drop place mask ≡ true ∷ drop (place + 1) mask = marked mask place true (omega arith) begins in
    let c : drop place code ≡ get_or code place 0 ∷ drop (place + 1) code = drop_more code place 0 h in
    let size : end - place ≡ suc (end - (place + 1)) = omega arith in
    ap (λ ms. code_units ms (drop place code)) m
    ∙ ap (code_units (true ∷ drop (place + 1) mask)) c
    ∙ ap (λ l. (get_or code place 0 ∷ l) ∷ code_units (drop (place + 1) mask) (drop (place + 1) code)) lead_is
    ∙ ap (λ us. (get_or code place 0 ∷ take (end - (place + 1)) (drop (place + 1) code)) ∷ us) units_are
    ∙ ap (λ cs. take (suc (end - (place + 1))) cs ∷ code_units (drop end mask) (drop end code)) (sym c)
    ∙ ap (λ n. take n (drop place code) ∷ code_units (drop end mask) (drop end code)) (sym size)

-- one unit more was listed
pub units-more : (text next old : List ℕ) (mask : List Bool) (code : List ℕ) (place end : ℕ)
    → code_units (drop place mask) (drop place code) ≡ take (end - place) (drop place code) ∷ code_units (drop end mask) (drop end code)
    → place ≤ end → end ≤ length code
    → text ++ lines_text (unit_lines place (code_units (drop place mask) (drop place code))) ≡ old
    → next ≡ text ++ (unit_line place (take (end - place) (drop place code)) ++ (10 ∷ []))
    → next ++ lines_text (unit_lines end (code_units (drop end mask) (drop end code))) ≡ old
unfolding unit_lines lines_text
units-more text next old mask code place end split after within before e =
    let unit : List ℕ = take (end - place) (drop place code) in
    let rest : List (List ℕ) = code_units (drop end mask) (drop end code) in
    let size : length unit ≡ end - place = length-take-le (end - place) (drop place code) (omega (arith, length-drop place code)) in
    let sum : place + length unit ≡ end = omega arith in
    ap (λ t. t ++ lines_text (unit_lines end rest)) e
    ∙ append_assoc text (unit_line place unit ++ (10 ∷ [])) (lines_text (unit_lines end rest))
    ∙ ap (λ t. text ++ t) (append_assoc (unit_line place unit) (10 ∷ []) (lines_text (unit_lines end rest)))
    ∙ ap (λ n. text ++ (unit_line place unit ++ (10 ∷ lines_text (unit_lines n rest)))) (sym sum)
    ∙ ap (λ us. text ++ lines_text (unit_lines place us)) (sym split)
    ∙ before

units-none : (mask : List Bool) → code_units mask [] ≡ []
unfolding code_units
units-none [] = refl
units-none (m ∷ mask) = refl

pub units-all : (text old : List ℕ) (mask : List Bool) (code : List ℕ) (place : ℕ) → length code ≤ place
    → text ++ lines_text (unit_lines place (code_units (drop place mask) (drop place code))) ≡ old → text ≡ old
unfolding unit_lines lines_text
units-all text old mask code place h before =
    let none : code_units (drop place mask) (drop place code) ≡ [] = ap (code_units (drop place mask)) (drop_all place code h) ∙ units-none (drop place mask) in
    sym (append-nil text) ∙ ap (λ us. text ++ lines_text (unit_lines place us)) (sym none) ∙ before
