use Rattle.weigh.proofs.table.Weighing.add_rule.Goals as goal

pub returns : goal.returns
returns g c = λ gr w phrases f h ro row. let v = c.product-value.ensures gr w phrases f h ro row in cc
