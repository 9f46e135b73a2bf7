use Rattle.std.proofs.lemmas.Result.{err_from_is_err_and}
use Rattle.jam_cli.proofs.Spelled.{first_file, front_kept, rest_kept, front_refused, later_refused, all_spelled}
use Rattle.jam_cli.proofs.values.Tuple2Contents.decode_all.Goals as goal

pub decode-requires : goal.decode-requires
decode-requires g c =
    front_kept c.args.files.now _ c.first-item.result (first_file c.args.files.now c.first-item.result c.in-len1-up.len_at_least c.first-item.is)
    g.T.Content.kind g.R.Contents.all_kinds c.requires.kinds c.requires.kept

pub decode_all-requires-clause-kept : goal.decode_all-requires-clause-kept
decode_all-requires-clause-kept g c =
    rest_kept c.args.files.now _ c.first-item.result (first_file c.args.files.now c.first-item.result c.in-len1-up.len_at_least c.first-item.is)
    g.T.Content.kind g.R.Contents.all_kinds c.requires.kinds c.requires.kept

pub returns-in-Err-clause-refused : goal.returns-in-Err-clause-refused
returns-in-Err-clause-refused g c =
    rw c.refused_as.ensures (front_refused c.args.files.now _ c.first-item.result (first_file c.args.files.now c.first-item.result c.in-len1-up.len_at_least c.first-item.is)
    g.T.Content.kind g.R.Contents.all_kinds c.requires.kinds c.in-Err.refusal c.in-Err.ensures.refused)

pub returns-in_err-others-clause-refused : goal.returns-in_err-others-clause-refused
returns-in_err-others-clause-refused g c =
    let refused = err_from_is_err_and c.from_residual.result c.from_residual.ensures.1 in
    rw (refused.1, refused.2) (later_refused c.args.files.now _ c.first-item.result (first_file c.args.files.now c.first-item.result c.in-len1-up.len_at_least c.first-item.is)
    g.T.Content.kind g.R.Contents.all_kinds c.requires.kinds c.in_err-others.field-0.0 (λ bytes keeps. (_, (c.in-Ok.ensures.spelled bytes keeps).1)) c.in_err-others.ensures.refused)

pub returns-clause-spelled : goal.returns-clause-spelled
returns-clause-spelled g c =
    all_spelled c.args.files.now _ c.first-item.result (first_file c.args.files.now c.first-item.result c.in-len1-up.len_at_least c.first-item.is)
    g.T.Content.kind g.R.Contents.all_kinds c.requires.kinds (g.T.Content.Tells c.in-Ok.value) (g.T.Content.value c.in-Ok.value) (g.R.Contents.Tell c.in_ok-others.others) (g.R.Contents.values c.in_ok-others.others) c.in-Ok.ensures.spelled c.in_ok-others.ensures.spelled
