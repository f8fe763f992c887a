use Rattle.std.proofs.Common.{◌+◌}
use Rattle.copying.proofs.Alive.{links}
use Rattle.copying.proofs.Held.{meant}
use Rattle.copying.proofs.Links.{firsts_zero}
use Rattle.copying.proofs.Whole.{copied_cells, length_part}
use Rattle.copying.proofs.copy.Goals as goal

pub write_places-requires-clause-none : goal.write_places-requires-clause-none
write_places-requires-clause-none g c = firsts_zero c.args.shape.now.heights

pub returns : goal.returns
returns g c =
    let m = g.S.Source.meaning c.args.source.now in
    let a = c.requires.accepted in
    let shape = c.args.shape.now in
    record {
      cells =
          copied_cells m shape.heights shape.categories shape.functions shape.places shape.constituents shape.symbols shape.arguments
          c.args.cells.now c.write_functions.new.cells c.write_places.new.cells c.write_all_constituents.new.cells c.write_all_arguments.new.cells c.write_categories.new.cells
          a.categories a.functions a.places a.constituents a.symbols a.arguments c.requires.room
          c.write_functions.ensures c.write_places.ensures.rows c.write_all_constituents.ensures c.write_all_arguments.ensures
          (c.write_categories.ensures (shape.categories + shape.functions) c.write_places.ensures.linked);
      many = length_part m shape.heights;
      meaning = meant m shape.heights;
      linked = λ n e. links m shape.heights n a.sound a.heights e;
    }
