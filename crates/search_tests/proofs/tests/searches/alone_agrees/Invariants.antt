use Rattle.search_tests.proofs.tests.searches.alone_agrees.Given as goal

abbrev pub ghosts-walks_find : goal.ghosts-walks_find
ghosts-walks_find g a = record { name = a.blank.name; parts = a.blank.parts }
