use Rattle.optimistic_search.proofs.search_worker.SearchWorker.run.Given as goal

abbrev pub ghosts-go_round : goal.ghosts-go_round
ghosts-go_round g a = record { name = a.blank.name; parts = a.blank.parts }
