use Rattle.process_program.proofs.calls.program.Given as goal

abbrev pub ghosts-answered : goal.ghosts-answered
ghosts-answered g a = record { left = g.S.Source.left a.source }
