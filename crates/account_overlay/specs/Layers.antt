-- Changes over a map, and a journal by which they are undone: what the two say of the map now, and of the one that was saved.
use Rattle.std.specs.Prelude.{Bool, true, false, List, [], ◌∷◌, Option, Some, None, IsSome, refl}
use Rattle.std.specs.Coded.{Coded, code_by, coded×}
use Rattle.std.specs.declared.cmp.Ordering.{Ordering}
use Rattle.std.specs.BTreeMap.{insert_entry, is_at}
use Rattle.std.specs.Map.{lookup}
use Rattle.std.specs.FinMap as fin
use Rattle.jam_accounts.specs.Seen.{seen_entries}
use Rattle.account_overlay.specs.declared.layer.Change.{Change}
use Rattle.account_overlay.specs.declared.layer.Change.TheVariants.{AsBase, Gone, Is}

-- something as it is now, and as it was at the last checkpoint
pub record Halves (A : Type 0) : Type 0 where
  pub now : A
  pub saved : A

abbrev pub coded_halves : {A : Type 0} → Coded A → Coded (Halves A)
coded_halves {A} a = code_by (A × A) (coded× a a) (λ h. (h.now, h.saved)) (λ p. record { now = p.0; saved = p.1 }) (λ _. refl)

-- ---- what stands at a key

-- what is seen of a change, by what is seen of its value
abbrev pub seen_change : {V X : Type 0} → (V → X) → Change V → Change X
seen_change value AsBase = AsBase
seen_change value Gone = Gone
seen_change value (Is v) = Is (value v)

-- a place that holds true is one whose value is gone
abbrev pub dropped : {X : Type 0} → Bool → Change X
dropped true = Gone
dropped false = AsBase

module _ {X : Type 0} where
  -- the change after which a value stands there, or none
  abbrev pub becomes : Option X → Change X
  becomes None = Gone
  becomes (Some value) = Is value

  -- what stands where there is a change, over what stands below
  abbrev pub held : Change X → Option X → Option X
  held AsBase below = below
  held Gone below = None
  held (Is value) below = Some value

module _ {K X : Type 0} {R : K → K → Ordering} where
  -- a value at a key, or none
  abbrev pub with_value : fin.FinMap R X → K → Option X → fin.FinMap R X
  with_value m key None = fin.remove m key
  with_value m key (Some value) = fin.insert m key value

  -- a map after these changes, of which the last comes first; a change to what stands below means the base
  abbrev pub changed : fin.FinMap R X → fin.FinMap R X → List (K × Change X) → fin.FinMap R X
  changed base m [] = m
  changed base m (c ∷ cs) = with_value (changed base m cs) c.0 (held c.1 (fin.get base c.0))

-- ---- the map that the places of a layer and its journal speak of

module _ {K C L X : Type 0} {R : L → L → Ordering} (key : K → L) (see : C → Change X) (base : fin.FinMap R X) where
  -- now it is the base after what the places hold
  abbrev pub now_of : List (K × C) → fin.FinMap R X
  now_of places = changed base base (seen_entries key see places)

  -- saved it is the map now after what the journal says was held, from its end
  abbrev pub saved_of : List (K × C) → List (K × C) → fin.FinMap R X
  saved_of places journal = changed base (now_of places) (seen_entries key see journal)

  abbrev pub halves_of : List (K × C) → List (K × C) → Halves (fin.FinMap R X)
  halves_of places journal = record { now = now_of places; saved = saved_of places journal }

-- ---- places

module _ {K C : Type 0} (cmp : K → K → Ordering) where
  -- each key of the journal has a place
  abbrev pub Covered : List (K × C) → List (K × C) → Type 0
  Covered places [] = Unit {0}
  Covered places (undo ∷ undos) = IsSome (lookup (is_at (cmp undo.0)) places) × Covered places undos

  -- each place that there was is there
  abbrev pub Keeps : List (K × C) → List (K × C) → Type 0
  Keeps old new = (key : K) → IsSome (lookup (is_at (cmp key)) old) → IsSome (lookup (is_at (cmp key)) new)

  -- the places, once a journal is put back from its end
  abbrev pub put_back : List (K × C) → List (K × C) → List (K × C)
  put_back places [] = places
  put_back places (undo ∷ undos) = insert_entry cmp (put_back places undos) undo.0 undo.1
