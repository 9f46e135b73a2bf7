use Rattle.std.proofs.Common.{◌≡◌, ◌+◌, ◌^◌, ◌≤◌}
use Rattle.paged_memory.specs.PageMap.{all_have}
use Rattle.paged_memory.specs.Seen.{seen}
use Rattle.paged_memory.proofs.reads.all_have.Given as goal

abbrev pub invariant-pages : goal.invariant-pages
invariant-pages l = record {
  same : all_have (seen l.held) l.need l.addr l.n ≡ all_have (seen l.held) l.need l.address l.rest;
  end : l.address + l.rest ≤ 2 ^ 32;
}

abbrev pub decreases-pages : goal.decreases-pages
decreases-pages l = l.rest
