use Rattle.trace_text.proofs.trace.trace_text.Given as goal

abbrev pub ghost-write_run : goal.ghost-write_run
ghost-write_run a = a.tape.now.store.scene.content
