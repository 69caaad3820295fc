use Rattle.std.proofs.Common.{◌≡◌, ℕ, ◌+◌, ◌-◌, List, ◌++◌, length, take, drop, sym, ap, subst, ◌∙◌, arith, length-drop}
use lib.Seq.{take-add, drop-drop}
use Rattle.std.proofs.lemmas.List.{take_rest}
use Rattle.std.specs.Io.KnownBytes.{Appends}
use Rattle.std.proofs.KnownBytes.{Appends-trans}
use Rattle.streams.proofs.write_all.Goals as goal

-- k bytes behind the first n
rest_of : (bytes rest : List ℕ) (n k : ℕ) → rest ≡ drop n bytes → take (length rest - k) (drop k rest) ≡ drop (n + k) bytes
rest_of bytes rest n k e = take_rest rest k ∙ ap (drop k) e ∙ drop-drop k n bytes

pub loop-rest-preserved : goal.loop-rest-preserved
loop-rest-preserved g c =
    let I = c.loop-rest.invariant in
    let n = I.0 in
    let k = c.in-Ok.n in
    let bytes = c.args.bytes.now in
    let fits = c.in-Ok.ensures.bound in
    let joined = ap (λ l. take n bytes ++ take k l) I.2 ∙ sym (take-add n k bytes) in
    (n + k, omega (arith, fits, ap length I.2, length-drop n bytes, I.1), rest_of bytes _ n k I.2, subst (Appends _ _) joined (Appends-trans _ _ _ _ _ I.3 c.in-Ok.ensures.bytes))
