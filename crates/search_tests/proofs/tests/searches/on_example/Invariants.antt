use Rattle.search_tests.proofs.tests.searches.on_example.Given as goal

abbrev pub ghosts-on_book : goal.ghosts-on_book
ghosts-on_book a = record { name = a.blank.name; parts = a.blank.parts }
