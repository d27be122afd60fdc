use Rattle.std.proofs.Common.{◌/◌, arith}
use Rattle.link_model.proofs.Bits.{bit_set, bit_cleared}
use Rattle.link_model.proofs.Filled.{known_set, known_less, known_gone}
use Rattle.link_model.proofs.way_set.WaySet.put.Goals as goal

pub returns-then-is : goal.returns-then-is
returns-then-is c other =
    rw c.if-is.true (bit_set c.args.self.now.words.items c.args.number c.index_mut.result.now (omega (arith, c.requires, c.args.self.now.full)) c.index_mut.ensures.value other)

pub invariant_of-self-clause-known : goal.invariant_of-self-clause-known
invariant_of-self-clause-known c =
    known_set c.args.self.now.words.items c.args.self.now.filled (c.args.number / 64) _ (omega (arith, c.requires)) c.args.self.now.known

pub invariant_of-self-then-index-eq0-clause-known : goal.invariant_of-self-then-index-eq0-clause-known
invariant_of-self-then-index-eq0-clause-known c =
    let words = c.args.self.now.words.items in
    known_gone words c.args.self.now.filled (c.args.number / 64) c.index_mut-2.result.now _ c.index.result.now (omega (arith, c.requires)) (omega (arith, c.requires, c.args.self.now.full))
    c.index_mut-2.ensures.value c.index.ensures c.if-index-eq0.true c.args.self.now.known

pub invariant_of-self-else-index-eq0-clause-known : goal.invariant_of-self-else-index-eq0-clause-known
invariant_of-self-else-index-eq0-clause-known c =
    known_less c.args.self.now.words.items c.args.self.now.filled (c.args.number / 64) c.index_mut-2.result.now _ (omega (arith, c.requires, c.args.self.now.full))
    c.index_mut-2.ensures.value c.args.self.now.known

pub returns-then-index-eq0 : goal.returns-then-index-eq0
returns-then-index-eq0 c other =
    rw c.if-is.false (bit_cleared c.args.self.now.words.items c.args.number c.index_mut-2.result.now (omega (arith, c.requires, c.args.self.now.full)) c.index_mut-2.ensures.value other)

pub returns-else-index-eq0 : goal.returns-else-index-eq0
returns-else-index-eq0 c other =
    rw c.if-is.false (bit_cleared c.args.self.now.words.items c.args.number c.index_mut-2.result.now (omega (arith, c.requires, c.args.self.now.full)) c.index_mut-2.ensures.value other)
