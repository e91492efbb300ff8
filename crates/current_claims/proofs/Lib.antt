mod Lists
mod ReadRelations
mod OfEntity
mod OfNeeds
mod Places
mod Differing
