use Rattle.run_trace.proofs.replaying.replay.Given as goal

abbrev pub ghosts-replay_with : goal.ghosts-replay_with
ghosts-replay_with a = record { name = a.blank.name; parts = a.blank.parts }
