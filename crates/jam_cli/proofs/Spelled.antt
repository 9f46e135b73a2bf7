-- The first of the files that spells no value, at the front of a list or behind it.
use Rattle.std.proofs.Common.{◌≡◌, ◌≢◌, ℕ, ◌-◌, ◌≤◌, List, [], ◌∷◌, length, get_or, take, drop, sym, ap, ◌∙◌, subst, arith, inl, inr, refl}
use Rattle.std.proofs.lemmas.List.{take_rest}
use Rattle.jam_codec.specs.Format.{Spells}
use Rattle.jam_codec.specs.declared.refusal.FileRefusal.{FileRefusal}
use Rattle.jam_codec.specs.declared.refusal.FileRefusal.TheVariants as codec
use Rattle.jam_cli.specs.declared.refusal.Refusal.{Refusal}
use Rattle.jam_cli.specs.declared.refusal.Refusal.TheVariants.{NoMemory, BadWords, ReadFault, TooLong, NotSpelled, BadLine, SinkFault, StoreFault}
use Rattle.jam_cli.specs.declared.verb.Kind.{Kind}
use Rattle.jam_cli.specs.declared.verb.Kind.TheVariants.{Program, Standard, Bytes, State, Batch, Text}
use Rattle.jam_cli.specs.declared.reads.File as code_file
use Rattle.jam_cli.specs.declared.kept.Kept as kept_file
use Rattle.jam_cli.specs.declared.kept.Kept.TheVariants as kept
use Rattle.jam_cli.specs.Table.{Input}
use Rattle.jam_cli.specs.Command.{File, ValueOf, format_of, kinds, Values, SpellAll, IsSpelled}
use Rattle.jam_cli.specs.Parts.{plain_input, inputs_in, first_bytes, later_files, IsKeptFile, KeepsWhole, AreFiles, AreKeptFiles, IsNone, refused_as, NotAllSpelled}

head : {k l : Kind} {ks ls : List Kind} → k ∷ ks ≡ l ∷ ls → k ≡ l
head e = cc

none_here : (f : File) (fs : List File) (e : FileRefusal) → IsNone f.input.kind f.bytes e → NotAllSpelled (refused_as f.input.word e) (f ∷ fs)
none_here f fs (codec.Malformed place) none = inl (refl, none)
none_here f fs codec.NoMemory none = tt

none_later : (f : File) (fs : List File) (refusal : Refusal) → IsSpelled f.input.kind f.bytes → NotAllSpelled refusal fs → NotAllSpelled refusal (f ∷ fs)
none_later f fs NoMemory here not = tt
none_later f fs (NotSpelled word place) here not = inr (here, not)
none_later f fs BadWords here not = absurd not
none_later f fs (ReadFault word) here not = absurd not
none_later f fs (TooLong word) here not = absurd not
none_later f fs (BadLine line kind) here not = absurd not
none_later f fs SinkFault here not = absurd not
none_later f fs StoreFault here not = absurd not

-- the files of a list that has a first one
pub first_file : (fs : List code_file.File) (f : code_file.File) → 1 ≤ length fs → f ≡ get_or fs 0 f → fs ≡ f ∷ take (length fs - 1) (drop 1 fs)
first_file [] f some is = absurd (omega (arith, some))
first_file (g ∷ fs) f some is =
    let same : f ≡ g = is in
    let rest : take (length (g ∷ fs) - 1) (drop 1 (g ∷ fs)) ≡ fs = take_rest (g ∷ fs) 1 in
    ap (λ (h : code_file.File). h ∷ fs) (sym same) ∙ ap (λ (hs : List code_file.File). f ∷ hs) (sym rest)

module _ (fs rest : List code_file.File) (f : code_file.File) (are : fs ≡ f ∷ rest) (kind : Kind) (ks : List Kind) (of : kinds (inputs_in fs) ≡ kind ∷ ks) where
  kind_is : f.input.kind ≡ kind
  kind_is = sym (head (sym of ∙ ap (λ (gs : List code_file.File). kinds (inputs_in gs)) are))

  -- what holds of each first file and the later ones holds of all files
  by_first : (P : List File → Type 0) → ((g : File) (gs : List File) → g.input ≡ plain_input f.input → IsKeptFile kind f.kept g.bytes → AreFiles rest gs → P (g ∷ gs)) → (gs : List File) → AreFiles fs gs → P gs
  by_first P by gs all = first gs (subst (λ hs. AreFiles hs gs) are all)
    where
      first : (gs : List File) → AreFiles (f ∷ rest) gs → P gs
      first [] all = absurd all
      first (g ∷ gs) all = by g gs all.0.input (subst (λ k. IsKeptFile k f.kept g.bytes) kind_is all.0.kept) all.1

  pub front_kept : AreKeptFiles fs → (bytes : List ℕ) × IsKeptFile kind f.kept bytes
  front_kept kept = by_first (λ gs. (bytes : List ℕ) × IsKeptFile kind f.kept bytes) (λ g gs input keeps others. (g.bytes, keeps)) kept.0 kept.1

  pub rest_kept : AreKeptFiles fs → AreKeptFiles rest
  rest_kept kept = by_first (λ gs. AreKeptFiles rest) (λ g gs input keeps others. (gs, others)) kept.0 kept.1

  pub front_refused : (refusal : FileRefusal) → ((bytes : List ℕ) → IsKeptFile kind f.kept bytes → IsNone kind bytes refusal)
      → (gs : List File) → AreFiles fs gs → NotAllSpelled (refused_as f.input.word refusal) gs
  front_refused refusal none = by_first (λ gs. NotAllSpelled (refused_as f.input.word refusal) gs) (λ g gs input keeps others.
      subst (λ (i : Input). NotAllSpelled (refused_as i.word refusal) (g ∷ gs)) input
      (none_here g gs refusal (subst (λ (i : Input). IsNone i.kind g.bytes refusal) (sym input) (subst (λ k. IsNone k g.bytes refusal) (sym kind_is) (none g.bytes keeps)))))

  pub later_refused : (refusal : Refusal) → ((bytes : List ℕ) → IsKeptFile kind f.kept bytes → IsSpelled kind bytes)
      → ((gs : List File) → AreFiles rest gs → NotAllSpelled refusal gs) → (gs : List File) → AreFiles fs gs → NotAllSpelled refusal gs
  later_refused refusal spelled not = by_first (λ gs. NotAllSpelled refusal gs) (λ g gs input keeps others.
      none_later g gs refusal (subst (λ (i : Input). IsSpelled i.kind g.bytes) (sym input) (subst (λ k. IsSpelled k g.bytes) (sym kind_is) (spelled g.bytes keeps))) (not gs others))

  pub all_spelled : (Tells : List ℕ → Type 0) (value : List ℕ → ValueOf kind) (Tell : List File → Type 0) (values : List File → Values ks)
      → ((bytes : List ℕ) → IsKeptFile kind f.kept bytes → Tells bytes × Spells (format_of kind) (value bytes) bytes)
      → ((gs : List File) → AreFiles rest gs → Tell gs × SpellAll ks (values gs) gs)
      → (gs : List File) → AreFiles fs gs → (Tells (first_bytes gs) × Tell (later_files gs)) × SpellAll (kind ∷ ks) (value (first_bytes gs), values (later_files gs)) gs
  all_spelled Tells value Tell values here others =
      by_first (λ gs. (Tells (first_bytes gs) × Tell (later_files gs)) × SpellAll (kind ∷ ks) (value (first_bytes gs), values (later_files gs)) gs) (λ g gs input keeps are.
      let one = here g.bytes keeps in
      let more = others gs are in
      ((one.0, more.0), (one.1, more.1)))

-- bytes that are kept as a whole are one
pub same_whole : (k : kept_file.Kept) (a b : List ℕ) → KeepsWhole k a → KeepsWhole k b → a ≡ b
same_whole (kept.Whole v) a b p q = sym p ∙ q
same_whole (kept.Digest d) a b p q = absurd p

-- of every kind but one the files are kept so
pub kept_whole : (kind : Kind) (k : kept_file.Kept) (bytes : List ℕ) → kind ≢ Bytes → IsKeptFile kind k bytes → KeepsWhole k bytes
kept_whole Bytes k bytes other keeps = absurd (other refl)
kept_whole Program k bytes other keeps = keeps
kept_whole Standard k bytes other keeps = keeps
kept_whole State k bytes other keeps = keeps
kept_whole Batch k bytes other keeps = keeps
kept_whole Text k bytes other keeps = keeps
