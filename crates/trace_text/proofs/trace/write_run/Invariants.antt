use Rattle.trace_text.proofs.trace.write_run.Given as goal

abbrev pub ghost-write_events : goal.ghost-write_events
ghost-write_events g a = g.opening
