mod FillerLaws
