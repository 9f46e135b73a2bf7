use Rattle.std.proofs.Common.{sym, nat_eq}
use Rattle.std.specs.Cmp.Lexicographic.{pointwise}
use Rattle.lru.proofs.CallerLemmas.{Contains-lookup}
use Rattle.program_cache.proofs.cache.matching.Goals as goal

pub same-requires : goal.same-requires
same-requires c =
    let there = Contains-lookup (pointwise nat_eq c.args.hash.now) c.args.kept.now.entries c.in-Some.cached.now (sym c.in-Some.ensures) in
    c.requires (there.0, c.in-Some.cached.now) there.1
