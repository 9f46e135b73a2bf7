-- Each clause follows from how the call ends, whatever the command.
use Rattle.jam_cli.proofs.Endings.{done_means, bad_words_means, bad_words_comes, read_fault_means, too_long_means, too_long_comes, refused_means, refused_comes, bad_line_means, bad_line_comes, sink_fault_means, store_fault_means, no_memory_means, silent_means, others_keep_files, inputs_kept, counts_faults, keeps_names, counts_stores, served_is_done}
use Rattle.jam_cli.proofs.top.jam.Goals as goal

pub returns-clause-done : goal.returns-clause-done
returns-clause-done g c = rw (c.status_of.ensures) (done_means c.serve.result _ _ c.serve.ensures)

pub returns-clause-bad_words : goal.returns-clause-bad_words
returns-clause-bad_words g c = rw (c.status_of.ensures) (bad_words_means c.serve.result _ _ c.serve.ensures)

pub returns-clause-bad_words_where : goal.returns-clause-bad_words_where
returns-clause-bad_words_where g c = rw (c.status_of.ensures) (bad_words_comes c.serve.result _ _ c.serve.ensures)

pub returns-clause-read_fault : goal.returns-clause-read_fault
returns-clause-read_fault g c = rw (c.status_of.ensures) (read_fault_means c.serve.result _ _ c.serve.ensures)

pub returns-clause-too_long : goal.returns-clause-too_long
returns-clause-too_long g c = rw (c.status_of.ensures) (too_long_means c.serve.result _ _ c.serve.ensures)

pub returns-clause-too_long_where : goal.returns-clause-too_long_where
returns-clause-too_long_where g c = rw (c.status_of.ensures) (too_long_comes c.serve.result _ _ c.serve.ensures)

pub returns-clause-refused : goal.returns-clause-refused
returns-clause-refused g c = rw (c.status_of.ensures) (refused_means c.serve.result _ _ c.serve.ensures)

pub returns-clause-refused_where : goal.returns-clause-refused_where
returns-clause-refused_where g c = rw (c.status_of.ensures) (refused_comes c.serve.result _ _ c.serve.ensures)

pub returns-clause-bad_line : goal.returns-clause-bad_line
returns-clause-bad_line g c = rw (c.status_of.ensures) (bad_line_means c.serve.result _ _ c.serve.ensures)

pub returns-clause-bad_line_where : goal.returns-clause-bad_line_where
returns-clause-bad_line_where g c = rw (c.status_of.ensures) (bad_line_comes c.command_laws.ensures.values c.serve.result _ _ c.serve.ensures)

pub returns-clause-sink_fault : goal.returns-clause-sink_fault
returns-clause-sink_fault g c = rw (c.status_of.ensures) (sink_fault_means c.serve.result _ _ c.serve.ensures)

pub returns-clause-store_fault : goal.returns-clause-store_fault
returns-clause-store_fault g c = rw (c.status_of.ensures) (store_fault_means c.serve.result _ _ c.serve.ensures)

pub returns-clause-no_memory : goal.returns-clause-no_memory
returns-clause-no_memory g c = rw (c.status_of.ensures) (no_memory_means c.serve.result _ _ c.serve.ensures)

pub returns-clause-silent : goal.returns-clause-silent
returns-clause-silent g c = rw (c.status_of.ensures) (silent_means c.serve.result _ _ c.serve.ensures)

pub returns-clause-files : goal.returns-clause-files
returns-clause-files g c = rw (c.status_of.ensures) (others_keep_files c.serve.result _ _ c.serve.ensures)

pub returns-clause-inputs_kept : goal.returns-clause-inputs_kept
returns-clause-inputs_kept g c = inputs_kept c.serve.result _ _ c.serve.ensures

pub returns-clause-faults : goal.returns-clause-faults
returns-clause-faults g c = rw (c.status_of.ensures) (counts_faults c.serve.result _ _ c.serve.ensures)

pub returns-clause-names : goal.returns-clause-names
returns-clause-names g c = rw (c.status_of.ensures) (keeps_names c.serve.result _ _ c.serve.ensures)

pub returns-clause-stores : goal.returns-clause-stores
returns-clause-stores g c = rw (c.status_of.ensures) (counts_stores c.serve.result _ _ c.serve.ensures)

pub returns-clause-complete : goal.returns-clause-complete
returns-clause-complete g c = rw (c.status_of.ensures) (served_is_done c.command_laws.ensures.values c.serve.result _ _ c.serve.ensures)
