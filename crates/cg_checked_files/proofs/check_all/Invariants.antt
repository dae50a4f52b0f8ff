use Rattle.std.proofs.Common.{◌≡◌, true, false, All, map, take}
use Rattle.std.specs.List.{Any}
use Rattle.cg_json.specs.declared.form.Form.TheVariants.{Json}
use Rattle.cg_checked_files.specs.Named.{IsRightNamed, IsWrongNamed}
use Rattle.cg_checked_files.specs.Told.{AppendsTold}
use Rattle.cg_checked_files.proofs.check_all.Given as goal

-- the texts so far are right, or one of them isn't; they are told of, and no write has failed
abbrev pub invariant-loop-name : goal.invariant-loop-name
invariant-loop-name g l = record {
  right : l.are_right ≡ true → All (λ w. IsRightNamed (g.P.Inputs.standard l.inputs) (g.P.Inputs.file l.inputs) l.kind w.now) (take l.name-index l.names);
  wrong : l.are_right ≡ false → Any (λ w. IsWrongNamed (g.P.Inputs.standard l.inputs) (g.P.Inputs.file l.inputs) l.kind w.now) l.names;
  json : l.form ≡ Json → AppendsTold (g.P.Inputs.standard l.inputs) (g.P.Inputs.file l.inputs) l.kind (map (λ w. w.now) (take l.name-index l.names)) l.are_right (g.O.Sink.taken l.fn.out) (g.O.Sink.taken l.out);
  failed : g.O.Sink.failed l.out ≡ g.O.Sink.failed l.fn.out;
}
