use Rattle.std.proofs.Common.{inl, inr, refl, sym}
use Rattle.history_file.specs.declared.fault.FileFault.TheVariants as faults
use Rattle.history_mending.proofs.Heads.{not_begun, one_head_fault}
use Rattle.history_mending.proofs.Reading.{only_of, named_of}
use Rattle.history_mending.proofs.mending.mend.Goals as goal

pub mended_in-requires : goal.mended_in-requires
mended_in-requires c = sym c.in-Some.ensures

pub returns-in-Some-clause-only : goal.returns-in-Some-clause-only
returns-in-Some-clause-only c = λ version head body has. only_of c.args.bytes.now c.mended_in.result c.mended_in.ensures.fault version head body has

pub returns-in-Some-clause-named : goal.returns-in-Some-clause-named
returns-in-Some-clause-named c = λ fault first. named_of c.args.bytes.now c.mended_in.result c.mended_in.ensures.found c.mended_in.ensures.fault fault first

pub returns-in-None-clause-only : goal.returns-in-None-clause-only
returns-in-None-clause-only c = λ version head body has. absurd (not_begun c.args.bytes.now (sym c.in-None.ensures) (version, has.behind, has.magic))

pub returns-in-None-clause-fault : goal.returns-in-None-clause-fault
returns-in-None-clause-fault c = inr (inl (not_begun c.args.bytes.now (sym c.in-None.ensures), refl))

pub returns-in-None-clause-named : goal.returns-in-None-clause-named
returns-in-None-clause-named c = λ fault first. inr (one_head_fault c.args.bytes.now faults.BadMagic fault (inl (not_begun c.args.bytes.now (sym c.in-None.ensures), refl)) first)
