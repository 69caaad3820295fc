use Rattle.std.proofs.Common.{rules, tests, refl, ap, sym, ◌∙◌, get_or}
use Rattle.rules.specs.Limits.{max_connections}
use Rattle.rules.specs.Words.{every}
use Rattle.limits.proofs.EveryLaws.{every_same}
use Rattle.limits.proofs.AllLaws.{each_every, every_of_all}
use Rattle.connections.specs.Members.{members_in, member_in, member_formed, no_member}
use Rattle.connections.proofs.MemberLaws as M
use Rattle.sound.proofs.each_formed.Goals as goal

pub returns : goal.returns
returns c =
    let m = c.args.members.now in
    every_of_all (λ i. member_formed (member_in m i)) max_connections refl c.all.ensures.ran (λ x b q k. search (rules, tests))
    ∙ every_same max_connections (λ i. member_formed (member_in m i)) (λ i. member_formed (get_or (members_in m) i no_member)) (λ i l. ap member_formed (sym (M.member_is m i l)))
    ∙ ap (λ n. every n (λ i. member_formed (get_or (members_in m) i no_member))) (sym (M.length_members m))
    ∙ sym (each_every member_formed no_member (members_in m))
