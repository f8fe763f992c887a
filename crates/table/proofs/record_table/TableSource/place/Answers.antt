use Rattle.table.proofs.Spelling.{place_via}
use Rattle.table.proofs.record_table.TableSource.place.Goals as goal

pub returns : goal.returns
returns c = place_via c.args.self.now c.args.place c.place_row.result c.map.result c.place_row.ensures c.map.ensures.cases
