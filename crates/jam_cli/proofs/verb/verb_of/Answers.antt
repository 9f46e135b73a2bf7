use Rattle.std.proofs.Common.{◌≡◌, ℕ, List, [], ◌∷◌, Bool, true, false, Option, Some, None, cond, refl, sym, ap, ◌∙◌}
use Rattle.std.specs.List.{find}
use Rattle.std.specs.Str.{bytes_eq}
use Rattle.std.specs.Cmp.Lexicographic.{bytes_decides}
use Rattle.jam_cli.specs.declared.verb.Verb.{Verb}
use Rattle.jam_cli.specs.declared.verb.Verb.TheVariants as the
use Rattle.jam_cli.specs.Table.{row, verb_named}
use Rattle.jam_cli.proofs.verb.verb_of.Goals as goal

decided : (b : Bool) → (b ≡ true → ⊥) → b ≡ false
decided true other = absurd (other refl)
decided false other = refl

differs : (name word : List ℕ) → (word ≡ name → ⊥) → bytes_eq name word ≡ false
differs name word other = decided (bytes_eq name word) (λ same. other (sym ((bytes_decides name word).0 same)))

passed : (word : List ℕ) (verb : Verb) (verbs : List Verb) → (word ≡ (row verb).name → ⊥)
    → find (λ (v : Verb). bytes_eq (row v).name word) verbs ≡ None → find (λ (v : Verb). bytes_eq (row v).name word) (verb ∷ verbs) ≡ None
passed word verb verbs other rest =
    ap (λ (b : Bool). cond b (Some verb) (find (λ (v : Verb). bytes_eq (row v).name word) verbs)) (differs (row verb).name word other) ∙ rest

pub returns-in_default : goal.returns-in_default
unfolding verb_named
returns-in_default c =
    let word : List ℕ = c.args.word.now in
    passed word the.Run (the.Trace ∷ (the.Show ∷ (the.Hash ∷ (the.Asm ∷ (the.Disasm ∷ (the.Accumulate ∷ [])))))) c.in_default.not-run
    (passed word the.Trace (the.Show ∷ (the.Hash ∷ (the.Asm ∷ (the.Disasm ∷ (the.Accumulate ∷ []))))) c.in_default.not-trace
    (passed word the.Show (the.Hash ∷ (the.Asm ∷ (the.Disasm ∷ (the.Accumulate ∷ [])))) c.in_default.not-show
    (passed word the.Hash (the.Asm ∷ (the.Disasm ∷ (the.Accumulate ∷ []))) c.in_default.not-hash
    (passed word the.Asm (the.Disasm ∷ (the.Accumulate ∷ [])) c.in_default.not-asm
    (passed word the.Disasm (the.Accumulate ∷ []) c.in_default.not-disasm
    (passed word the.Accumulate [] c.in_default.not-accumulate refl))))))
