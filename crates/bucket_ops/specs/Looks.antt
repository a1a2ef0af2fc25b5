-- What the reply to a look says.
use Rattle.bucket_ops.specs.declared.look.Look.{Look}
use Rattle.bucket_ops.specs.declared.look.Look.TheVariants.{NoBucket, Nothing, Other, There}
use Rattle.s3_types.specs.declared.reply.Refusal.{Refusal}
use Rattle.s3_types.specs.declared.reply.Refusal.TheVariants.{NoSuchBucket, NoSuchKey}
use Rattle.s3_types.specs.declared.reply.Reply.{Reply}
use Rattle.s3_types.specs.declared.reply.Reply.TheVariants.{Head, Object as Found, Page, Refused}
use Rattle.std.specs.Prelude.{if◌then◌else◌, length, ◌==◌}

-- What a refused look says.
abbrev pub refused_look : Refusal → Look
refused_look NoSuchKey = Nothing
refused_look NoSuchBucket = NoBucket
refused_look _ = Other

-- Something is there if the reply is a head, an object, or a page with an entry.
abbrev pub look_of : Reply → Look
look_of (Head n h) = There
look_of (Found bytes h) = There
look_of (Page es more) = if length es == 0 then Nothing else There
look_of (Refused r) = refused_look r
look_of _ = Other
