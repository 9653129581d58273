use Rattle.spasm_timed.proofs.searched.time_walks.Given as goal

abbrev pub ghosts-walked : goal.ghosts-walked
ghosts-walked g a = record { name = a.blank.name; parts = a.blank.parts }
