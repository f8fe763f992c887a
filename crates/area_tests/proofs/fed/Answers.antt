use Rattle.area_tests.proofs.fed.Goals as goal

pub extend_by-requires-clause-held : goal.extend_by-requires-clause-held
extend_by-requires-clause-held c = (c.requires.0, _, c.loop-token.invariant c.requires.0 c.requires.1)
