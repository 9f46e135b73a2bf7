use Rattle.std.proofs.Common.{ap, sym, ◌∙◌, ℕ, List}
use Rattle.std.specs.FinMap as fin
use Rattle.std.proofs.lemmas.Iterator.Adapters.{option_map_id}
use Rattle.jam_codec.specs.Lists.{hash_and_number_cmp}
use Rattle.jam_accounts.specs.MapLaws.{got}
use Rattle.jam_codec.specs.FormatLaws.{hash_and_number_total}
use Rattle.jam_accounts.proofs.lookups.Lookups.get.Goals as goal

pub returns : goal.returns
returns c =
    c.copied.ensures ∙ c.get.ensures.value
    ∙ sym (option_map_id _) ∙ sym (got hash_and_number_cmp (λ (k : List ℕ × ℕ). k) (λ (v : List ℕ). v) hash_and_number_total c.self.inside.map (c.args.hash.now, c.args.length)) ∙ ap (λ m. fin.get m (c.args.hash.now, c.args.length)) c.self.view_is
