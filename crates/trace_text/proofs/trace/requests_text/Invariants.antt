use Rattle.trace_text.proofs.trace.requests_text.Given as goal

abbrev pub ghost-write_all : goal.ghost-write_all
ghost-write_all a = a.tape.now.store.scene.content
